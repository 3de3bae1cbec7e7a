-- The leaves so far are those to which the separators so far lead.
use Rattle.std.proofs.Common.{◌≡◌, take}
use Rattle.std.specs.Prelude.{All}
use Rattle.view_change.specs.Outline.{leaves_in}
use Rattle.view_change.specs.Walked.{IsNamed}
use Rattle.view_change.proofs.walking.leaves_of.Given as goal

abbrev pub invariant-separators : goal.invariant-separators
invariant-separators g l = record {
  named : All (IsNamed l.site (g.N.Namer.named l.namer)) l.leaves.items;
  all : l.leaves.items ≡ leaves_in l.site (g.N.Namer.named l.namer) (take l.next-index l.next-items);
}
