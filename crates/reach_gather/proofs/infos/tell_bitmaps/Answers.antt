use Rattle.std.proofs.Common.{◌≡◌, ◌∙◌, ◌<◌, List, length, get_or, ap, subst}
use Rattle.std.specs.Prelude.{◌==◌, if◌then◌else◌}
use Rattle.space_map.specs.declared.chunk.Chunk.{Chunk}
use Rattle.reach_rules.specs.declared.owner.Who.TheVariants.{Bitmap}
use Rattle.reach_rules.specs.Owners.{owner}
use Rattle.reach_gather.proofs.Numbered.{bitmaps-step}
use Rattle.reach_gather.proofs.infos.tell_bitmaps.Goals as goal

pub loop-i-preserved : goal.loop-i-preserved
loop-i-preserved c =
    let none : Chunk = record { first = 0; blocks = 0; free = 0; bitmap = 0 } in
    let i = c.loop-i.i in
    let all : c.chunks-chunks.result.now ≡ c.args.space.now.chunks = c.chunks-chunks.ensures.all in
    record {
      namings = c.tell_pool.ensures.namings ∙ c.loop-i.invariant.namings;
      owners = c.tell_pool.ensures.owners ∙ c.loop-i.invariant.owners;
      pool_owners = bitmaps-step c.args.space.now.chunks i none c.bitmap.result c.args.out.now.pool_owners c.loop-i.out.pool_owners c.tell_pool.new.self.pool_owners
          (subst (λ (xs : List Chunk). i < length xs) all c.loop-i-test.true)
          (c.bitmap.ensures ∙ ap (λ (xs : List Chunk). owner (Bitmap i) (get_or xs i none).bitmap (if (get_or xs i none).bitmap == 0 then 0 else 1)) all)
          c.loop-i.invariant.pool_owners c.in_ok-tell_pool.ensures.pool_owners;
    }
