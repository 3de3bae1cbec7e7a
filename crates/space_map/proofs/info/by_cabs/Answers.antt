use Rattle.std.proofs.Common.{◌≡◌, ◌∙◌, ◌<◌, ◌*◌, ◌++◌, ◌≤◌, ℕ, [], ◌∷◌, ap, sym, subst, length, map, arith, below_more}
use Rattle.std.specs.List.{range_with_len}
use Rattle.space_map.specs.Fields.{cabs_of, cibs_of, cab_cibs_of}
use Rattle.space_map.specs.Blocks.{address_at, cab_address_at}
use Rattle.space_map.specs.Tests.{share}
use Rattle.space_map.specs.Stops.{IsRightCab}
use Rattle.space_map.specs.Held.{first_cibs}
use Rattle.space_map.proofs.Infos.{cab-has-address, cab_room, direct_more, cibs_joined, cibs_counted, cabs_start, cabs_hold, count_next, count_all, cabs_all, named_by_cabs}
use Rattle.space_map.proofs.info.by_cabs.Goals as goal

pub add_addresses-requires : goal.add_addresses-requires
add_addresses-requires g c =
    let count : c.share-count.result ≡ share (cibs_of c.args.manager.now) (cab_cibs_of c.args.manager.now) c.cabs.index = cc in
    let room = cab_room c.args.site.now c.args.manager.now c.cabs.index c.requires.site.accepted c.requires.shaped in
    let long : length c.deref.result.now ≡ c.args.site.now.block_size = ap length c.deref.ensures.value ∙ c.in-Ok.ensures.long in
    omega (arith, room, long, count)

pub address-requires : goal.address-requires
address-requires g c = cab-has-address c.args.site.now c.args.manager.now c.cabs.index c.requires.shaped (omega (arith, c.cabs-test.true))

pub cabs-preserved : goal.cabs-preserved
cabs-preserved g c =
    let site = c.args.site.now in
    let manager = c.args.manager.now in
    let index = c.cabs.index in
    let front = c.cabs.cibs.items in
    let new = c.add_addresses.new.cibs.items in
    let low : index < cabs_of manager = omega (arith, c.cabs-test.true) in
    let cab = c.deref.result.now in
    let count : c.share-count.result ≡ share (cibs_of manager) (cab_cibs_of manager) index = cc in
    let added : new ≡ front ++ map (cab_address_at cab) (range_with_len 0 (share (cibs_of manager) (cab_cibs_of manager) index)) = c.in_ok-add_addresses.ensures.added ∙ ap (λ n. front ++ map (cab_address_at cab) (range_with_len 0 n)) count in
    record {
      cabs = c.in_ok-push.ensures.items ∙ (ap (λ xs. xs ++ c.address.result ∷ []) c.cabs.invariant.cabs ∙ (ap (λ b. map (address_at manager) (range_with_len 0 index) ++ b ∷ []) c.address.ensures ∙ sym (direct_more manager index)));
      count = count_next (cibs_of manager) (cab_cibs_of manager) index (length front) (length new) c.cabs.invariant.count (cabs_start site manager index c.requires.shaped low) (cibs_counted manager cab front new index added);
      cibs = λ image told.
          cibs_joined image site manager cab front new index c.requires.shaped low
          (c.deref.ensures.value ∙ c.in-Ok.ensures.found image (c.cabs.invariant.kept.same_bytes ∙ told))
          c.cabs.invariant.count (c.cabs.invariant.cibs image told) added;
      right = λ image told. below_more (λ (k : ℕ). IsRightCab image site manager k) index (c.cabs.invariant.right image told) (c.in-Ok.ensures.right image (c.cabs.invariant.kept.same_bytes ∙ told));
      kept = record {
        same_bytes = c.in-Ok.ensures.kept.same_bytes ∙ c.cabs.invariant.kept.same_bytes;
        same_size = c.in-Ok.ensures.kept.same_size ∙ c.cabs.invariant.kept.same_size;
        later = omega (arith, c.in-Ok.ensures.kept.later, c.cabs.invariant.kept.later);
      };
      reads = omega (arith, c.in-Ok.ensures.reads, c.cabs.invariant.reads);
    }

pub returns-clause-cabs : goal.returns-clause-cabs
returns-clause-cabs g c = let end : c.cabs.index ≡ cabs_of c.args.manager.now = omega arith in cabs_all c.args.manager.now c.cabs.cabs.items c.cabs.index end c.cabs.invariant.cabs

pub returns-clause-count : goal.returns-clause-count
returns-clause-count g c =
    let manager = c.args.manager.now in
    let end : c.cabs.index ≡ cabs_of manager = omega arith in
    let holds = cabs_hold c.args.site.now manager c.requires.shaped c.requires.some in
    count_all (cibs_of manager) (cab_cibs_of manager) c.cabs.index (length c.cabs.cibs.items) (subst (λ n. cibs_of manager ≤ cab_cibs_of manager * n) (sym end) holds) c.cabs.invariant.count

pub returns-clause-clear : goal.returns-clause-clear
returns-clause-clear g c image told =
    let site = c.args.site.now in
    let manager = c.args.manager.now in
    let end : c.cabs.index ≡ cabs_of manager = omega arith in
    named_by_cabs image site manager c.cabs.cibs.items c.requires.shaped c.requires.some
    (λ k low. c.cabs.invariant.right image told k (omega (arith, end, low)))
    (c.cabs.invariant.cibs image told ∙ ap (first_cibs image site manager) (returns-clause-count g c))
