use Rattle.std.proofs.Common.{◌≡◌, ◌∙◌, List, false, map, take, sym, subst}
use Rattle.view_change.specs.declared.leaf.Leaf.{Leaf}
use Rattle.view_change.specs.Shared.{is_among, StayInOrder, IsWithin, ComesNext}
use Rattle.view_change.specs.Kept.{leaf_of}
use Rattle.view_change.specs.Changing.{leaves_left}
use Rattle.view_change.proofs.Passes.{for-some, any-found, at-none}
use Rattle.view_change.proofs.Shares.{stays-within, new-within}
use Rattle.view_change.proofs.changing.ChangingLeafTaker.take.Goals as goal

pub returns-then-is_some-clause-leaf_ends : goal.returns-then-is_some-clause-leaf_ends
returns-then-is_some-clause-leaf_ends g c start image leaves told had = c.in_ok-stay.ensures.leaf_ends start c.args.site.now image leaves had

pub returns-then-is_some-clause-held : goal.returns-then-is_some-clause-held
returns-then-is_some-clause-held g c start image leaves told had = c.in_ok-stay.ensures.held start c.args.site.now image leaves had

pub returns-then-is_some-clause-reads_new : goal.returns-then-is_some-clause-reads_new
returns-then-is_some-clause-reads_new g c left limit within =
    let before = leaves_left c.args.self.now in
    let rest = leaves_left c.stay.new.self in
    let reads = g.S.BlockSource.reads c.args.src.now in
    for-some c.in_ok-stay.field-0 (ComesNext c.args.leaf before rest) (StayInOrder rest left × IsWithin rest left reads limit) (λ next. stays-within c.args.leaf left before rest reads limit next within.0 within.1) c.in_ok-stay.ensures.next

pub returns-clause-reads_new : goal.returns-clause-reads_new
returns-clause-reads_new g c left limit within =
    let before = leaves_left c.args.self.now in
    let reads = g.S.BlockSource.reads in
    let far : is_among (take 256 before) c.args.leaf ≡ false = at-none c.place_of.result (is_among (take 256 before) c.args.leaf ≡ false) (sym c.is_some.ensures ∙ c.if-is_some.false) c.place_of.ensures.none in
    let same : leaves_left c.read.new.self ≡ before = λ i. map leaf_of (c.read.ensures.same i).items in
    let Within : List Leaf → Type 0 = λ ls. StayInOrder ls left × IsWithin ls left (reads c.read.new.src) limit in
    any-found c.read.result (Within (leaves_left c.read.new.self)) (subst Within (sym same) (new-within c.args.leaf left before (reads c.args.src.now) (reads c.read.new.src) limit far c.read.ensures.reads within.0 within.1))
