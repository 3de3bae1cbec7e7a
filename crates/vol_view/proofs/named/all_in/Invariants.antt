use Rattle.std.proofs.Common.{◌≡◌, ℕ, List, true, take}
use Rattle.std.specs.List.{list_all}
use Rattle.vol_view.specs.Named.{IsIndex, is_told}
use Rattle.vol_view.proofs.named.all_in.Given as goal

abbrev pub invariant-records : goal.invariant-records
invariant-records g l = (known : List (List ℕ × ℕ)) → IsIndex known l.index → list_all (λ told. is_told known (g.T.Named.name_of told) (g.T.Named.xid_of told)) (take l.told-index l.records) ≡ true
