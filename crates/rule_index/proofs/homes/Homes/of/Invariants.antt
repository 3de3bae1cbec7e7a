use Rattle.std.proofs.Common.{◌≡◌, take}
use Rattle.std.specs.Prelude.{not}
use Rattle.std.specs.List.{list_any}
use Rattle.fs_record.specs.Facts.{directory_kind}
use Rattle.rule_index.specs.Kins.{has_kind}
use Rattle.rule_index.specs.Homes.{is_astray, HasHomes}
use Rattle.rule_index.proofs.homes.Homes.of.Given as goal

abbrev pub invariant-loop-e : goal.invariant-loop-e
invariant-loop-e l = record { homes : HasHomes l.kins (take l.e-index l.entries) (l.places.items, l.listed.items); whole : l.whole ≡ not (list_any (is_astray l.kins) (take l.e-index l.entries)); seen : l.seen.directory ≡ has_kind l.kins l.seen.id directory_kind }
