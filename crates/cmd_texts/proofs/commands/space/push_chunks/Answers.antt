-- The chunks so far, and the one at hand.
use Rattle.std.proofs.Common.{ℕ, List, ◌++◌, ◌≤◌, ◌<◌, ◌∙◌, ap, append_assoc, sym, length, take, get_or, arith}
use Rattle.std.specs.List.{flat_map, enumerate_from}
use Rattle.space_map.specs.declared.chunk.Chunk.{Chunk}
use Rattle.cmd_texts.specs.Commands.Space.{chunk_text}
use Rattle.cmd_texts.proofs.Spaces.{chunks_next, chunks_whole}
use Rattle.cmd_texts.proofs.commands.space.push_chunks.Goals as goal

pub chunks-preserved : goal.chunks-preserved
chunks-preserved c =
    let low : c.chunks.number < length c.args.chunks.now = omega arith in
    let none : Chunk = record { first = 0; blocks = 0; free = 0; bitmap = 0 } in
    let line : List ℕ = chunk_text (c.chunks.number, get_or c.args.chunks.now c.chunks.number none) in
    let before : List ℕ = flat_map chunk_text (take c.chunks.number (enumerate_from 0 c.args.chunks.now)) in
    c.in_ok-push_chunk.ensures ∙ ap (λ l. l ++ line) c.chunks.invariant ∙ append_assoc c.args.text.now.items before line
    ∙ ap (λ l. c.args.text.now.items ++ l) (sym (chunks_next c.args.chunks.now c.chunks.number none low))

pub returns : goal.returns
returns c =
    let whole : length c.args.chunks.now ≤ c.chunks.number = omega arith in
    c.chunks.invariant ∙ ap (λ l. c.args.text.now.items ++ l) (chunks_whole c.args.chunks.now c.chunks.number whole)
