use Rattle.std.proofs.Common.{◌∙◌, ap, sym}
use Rattle.apfs_model.specs.Lists.{passes}
use Rattle.nx_ring.specs.Objects.{mapped_bytes}
use Rattle.nx_ring.specs.Known.{is_expected}
use Rattle.nx_ring.proofs.Heads.{known_decides}
use Rattle.nx_ring.proofs.known.has_object.Goals as goal

pub returns-in-Some-clause-found : goal.returns-in-Some-clause-found
returns-in-Some-clause-found g c image told was =
    let m = c.args.m.now in
    let known = was m.paddr m.size c.in-Some.sound (sym c.look_up.ensures ∙ c.in-Some.is) in
    c.is_found.ensures ∙ (ap (λ sound. passes sound (is_expected c.args.xid m)) known ∙ sym (known_decides c.args.xid m (mapped_bytes image c.args.areas.now m)))
