use Rattle.std.proofs.Common.{◌∙◌, ap, eqb, length}
use Rattle.std.proofs.lemmas.List.Filters.{dedup_is}
use Rattle.ext_ref.proofs.Counted.{count-distinct}
use Rattle.ext_ref.proofs.referring.count_distinct.Goals as goal

pub returns : goal.returns
returns c = ap length c.as_slice.ensures.value ∙ count-distinct c.args.numbers.items c.sort.new.self.items c.dedup.new.self.items c.sort.ensures.permutation c.in_ok-sort.ensures.sorted (dedup_is eqb c.sort.new.self.items c.dedup.new.self.items c.dedup.ensures.filtered)
