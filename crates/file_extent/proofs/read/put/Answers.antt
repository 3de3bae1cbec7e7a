use Rattle.std.proofs.Common.{◌≡◌, ℕ, length, Some, None, true, sym, subst, ◌∙◌, arith}
use Rattle.std.specs.Prelude.{Option}
use Rattle.std.proofs.lemmas.Bool.Decides.{nat_tests}
use Rattle.fs_record.specs.StreamExtents.{is_hole}
use Rattle.fs_record.specs.declared.extents.FileExt.{FileExt}
use Rattle.file_extent.specs.Laid.{IsPart}
use Rattle.file_extent.proofs.Pieces.{bytes-hole, bytes-none}
use Rattle.file_extent.proofs.read.put.Goals as goal

part-of : (es : _) (i n : ℕ) (o p : Option FileExt) → o ≡ p → IsPart es i o n → IsPart es i p n
part-of es i n o p same part = subst (λ (q : Option FileExt). IsPart es i q n) same part

pub returns-in_default-clause-found : goal.returns-in_default-clause-found
returns-in_default-clause-found g c = λ image told.
    c.zero.ensures ∙ sym (bytes-none c.args.site.now.block_size image c.args.extents.now c.args.i (length c.args.into.now) (length c.args.into.now) (part-of c.args.extents.now c.args.i (length c.args.into.now) c.args.extent None c.in_default.is c.requires.part) (omega arith))

pub returns-then-extent-eq0-clause-found : goal.returns-then-extent-eq0-clause-found
returns-then-extent-eq0-clause-found g c = λ image told.
    let hole : is_hole c.in-Some.extent ≡ true = grind (arith, nat_tests, c.if-extent-eq0.true) in
    c.zero-then-extent-eq0.ensures ∙ sym (bytes-hole c.args.site.now.block_size image c.args.extents.now c.args.i (length c.args.into.now) (length c.args.into.now) c.in-Some.extent (part-of c.args.extents.now c.args.i (length c.args.into.now) c.args.extent (Some c.in-Some.extent) c.in-Some.is c.requires.part) hole (omega arith))
