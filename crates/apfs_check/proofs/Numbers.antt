-- The numbers of a report are well defined: they are there, and there is one of each.
use Rattle.std.proofs.Common.{◌≡◌, ℕ, ◌-◌, ◌<◌, Bool, List, [], ◌∷◌, length, filter, Option, Some, None, Ok, Result, inl, inr, refl, ap, sym, ◌∙◌, subst, arith}
use Rattle.std.specs.Prelude.{flat_map}
use Rattle.std.specs.List.{range_with_len}
use Rattle.apfs_model.specs.Counts.{given}
use Rattle.apfs_model.specs.Lists.{In, Lists, through}
use Rattle.obj_base.specs.declared.stop.Stop.{Stop}
use Rattle.nx_ring.specs.Checkpoint.{Seen, site_of}
use Rattle.nx_ring.specs.declared.fault.RingFault.{RingFault}
use Rattle.space_map.specs.Marks.{is_marked}
use Rattle.vol_view.specs.Heads.{heads_of}
use Rattle.reach_rules.specs.declared.naming.Object.{Object}
use Rattle.reach_rules.specs.declared.naming.Object.TheVariants.{Newest}
use Rattle.reach_rules.specs.declared.naming.Naming.{Naming}
use Rattle.reach_rules.specs.Resolved.{Found, resolved}
use Rattle.reach_rules.specs.Live.{IsLive, IsNamed, newest, named}
use Rattle.reach_rules.specs.Tally.{IsNumberOf, IsOwnedBlock}
use Rattle.reach_rules.specs.Accounted.{IsAccounted}
use Rattle.apfs_model.proofs.BoolTests.{in-range, from-range}
use Rattle.apfs_model.proofs.Finite.{Either, apart-same, IsOnce, once, apart-range, apart-filter}
use Rattle.apfs_model.proofs.Searches.{in-flat_map, from-flat_map, in-filter, from-filter, filter-test}
use Rattle.reach_rules.proofs.Equal.{object_eq}
use Rattle.reach_rules.proofs.Alive.{live_or}
use Rattle.reach_rules.proofs.Decided as accounts
use Rattle.view_rules.specs.declared.notes.Note.{Note}
use Rattle.view_rules.specs.declared.profile.Profile.{Profile}
use Rattle.apfs_check.specs.Notes.{notes_of}
use Rattle.apfs_check.specs.WellFormed.{IsWellFormed}
use Rattle.apfs_check.specs.Report.{views_in, records_in, Told, IsToldOf, IsReport}

-- there is one number of things
pub one-number : {X : Type 0} (P : X → Type 0) (m n : ℕ) → IsNumberOf P m → IsNumberOf P n → m ≡ n
one-number P m n a b = a.same ∙ (ap given (apart-same P a.all b.all a.apart b.apart a.lists b.lists) ∙ sym b.same)

told_by : ℕ → ℕ → ℕ → ℕ → ℕ → ℕ → ℕ → List Note → Told
told_by xid volumes views objects records used free notes = record { xid = xid; volumes = volumes; views = views; objects = objects; records = records; used = used; free = free; notes = notes }

told-is : (a b : Told) → a.xid ≡ b.xid → a.volumes ≡ b.volumes → a.views ≡ b.views → a.objects ≡ b.objects → a.records ≡ b.records → a.used ≡ b.used → a.free ≡ b.free → a.notes ≡ b.notes → a ≡ b
unfolding told_by
told-is a b e1 e2 e3 e4 e5 e6 e7 e8 =
    let k : told_by a.xid a.volumes a.views a.objects a.records a.used a.free a.notes ≡ told_by b.xid b.volumes b.views b.objects b.records b.used b.free b.notes = cc in k

-- one thing is told of the container of a checkpoint
pub one-told : (profile : Profile) (image : List ℕ) (seen : Seen) (a b : Told) → IsToldOf profile image seen a → IsToldOf profile image seen b → a ≡ b
one-told profile image seen a b p q =
    let used : a.used ≡ b.used = one-number _ a.used b.used p.used q.used in
    told-is a b (p.xid ∙ sym q.xid) (p.volumes ∙ sym q.volumes) (p.views ∙ sym q.views) (one-number _ a.objects b.objects p.objects q.objects) (p.records ∙ sym q.records) used
    (p.free ∙ (ap (λ u. (site_of seen).blocks - u) used ∙ sym q.free)) (p.notes ∙ sym q.notes)

-- one report is told of an image
pub one_report : (profile : Profile) (image : List ℕ) (a b : Told) → IsReport profile image a → IsReport profile image b → a ≡ b
one_report profile image a b p q =
    let e : ◌≡◌ {A = Result Seen (Stop RingFault)} (Ok q.seen) (Ok p.seen) = sym q.newest ∙ p.newest in
    let same : q.seen ≡ p.seen = cc in
    one-told profile image p.seen a b p.same (subst (λ s. IsToldOf profile image s b) same q.same)

-- ---- there is a number

-- the number of things of which a list has all
pub number-of : {X : Type 0} (P : X → Type 0) → ((a b : X) → Either (a ≡ b)) → (xs : List X) → Lists xs P → (n : ℕ) × IsNumberOf P n
number-of {X} P eq xs lists =
    let t : IsOnce xs = once eq xs in
    (given (length t.all), record { all = t.all; lists = (λ x h. lists.0 x (t.into x h), λ x p. t.back x (lists.1 x p)); apart = t.apart; same = refl })

-- the object to which a naming resolves
abbrev objects_by : List ℕ → Seen → Naming → List Object
objects_by image seen n = through (resolved image seen n) (λ (f : Found). f.object ∷ [])

object-named : (image : List ℕ) (seen : Seen) (n : Naming) (x : Object) → IsLive image seen n → In x (objects_by image seen n) → IsNamed image seen x
object-named image seen n x live h =
    let go : (o : Option Found) → resolved image seen n ≡ o → In x (through o (λ (f : Found). f.object ∷ [])) → IsNamed image seen x = λ o. elim o as (λ o. resolved image seen n ≡ o → In x (through o (λ (f : Found). f.object ∷ [])) → IsNamed image seen x) [
      | None ↦ λ e k. absurd k
      | Some f ↦ λ e k. elim k as (λ _. IsNamed image seen x) [ inl s ↦ subst (IsNamed image seen) (sym s) (named n f (record { live = live; found = e })) | inr m ↦ absurd m ]
    ] in
    go (resolved image seen n) refl h

named-object : (image : List ℕ) (seen : Seen) (xs : List Naming) → Lists xs (IsLive image seen) → (x : Object) → IsNamed image seen x → In x (Newest ∷ flat_map (objects_by image seen) xs)
named-object image seen xs lists x (newest) = inl refl
named-object image seen xs lists x (named n f s) =
    inr (in-flat_map (objects_by image seen) n f.object xs (lists.1 n s.live) (subst (λ o. In f.object (through o (λ (g : Found). g.object ∷ []))) (sym s.found) (inl refl)))

-- the number of named objects
pub object-number : (image : List ℕ) (seen : Seen) → IsAccounted image seen → (n : ℕ) × IsNumberOf (IsNamed image seen) n
object-number image seen w = elim (live_or image seen) as (λ _. (n : ℕ) × IsNumberOf (IsNamed image seen) n) [
  | inr flaw ↦ absurd (accounts.flawed_refutes image seen flaw w)
  | inl t ↦
      let xs : List Naming = t.0 in
      let lists : Lists xs (IsLive image seen) = t.1 in
      number-of (IsNamed image seen) object_eq (Newest ∷ flat_map (objects_by image seen) xs) (
        λ x h. elim h as (λ _. IsNamed image seen x) [
          | inl e ↦ subst (IsNamed image seen) (sym e) newest
          | inr k ↦ let l = from-flat_map (objects_by image seen) x xs k in object-named image seen l.0 x (lists.0 l.0 l.1.0) l.1.1
        ],
        λ x p. named-object image seen xs lists x p,
      )
]

-- the number of owned blocks: those that are marked
pub owned-number : (image : List ℕ) (seen : Seen) → IsAccounted image seen → (n : ℕ) × IsNumberOf (IsOwnedBlock image seen) n
owned-number image seen w =
    let mark : ℕ → Bool = λ block. is_marked (site_of seen).block_size image w.manager block in
    let blocks : List ℕ = range_with_len 0 (site_of seen).blocks in
    let low : (block : ℕ) → In block (filter mark blocks) → block < (site_of seen).blocks = λ block h. let l = from-range 0 (site_of seen).blocks block (from-filter mark block blocks h) in omega arith in (
      given (length (filter mark blocks)),
      record {
        all = filter mark blocks;
        lists = (
          λ block h. record { low = low block h; owned = (w.settled.marked block (low block h)).0 (filter-test mark block blocks h) },
          λ block p. let l : block < (site_of seen).blocks = p.low in in-filter mark block blocks (in-range 0 (site_of seen).blocks block (omega arith) (omega arith)) ((w.settled.marked block l).1 p.owned),
        );
        apart = apart-filter mark blocks (apart-range 0 (site_of seen).blocks);
        same = refl;
      },
    )

-- each well-formed container has a report
pub reported : (profile : Profile) (image : List ℕ) → IsWellFormed profile image → (told : Told) × IsReport profile image told
reported profile image w =
    let seen : Seen = w.seen in
    let objects = object-number image seen w.right.accounted in
    let owned = owned-number image seen w.right.accounted in (
      record {
        xid = seen.line.xid;
        volumes = length (heads_of image seen);
        views = given (views_in image seen);
        objects = objects.0;
        records = given (records_in image seen);
        used = owned.0;
        free = (site_of seen).blocks - owned.0;
        notes = notes_of profile image seen;
      },
      record {
        seen = seen;
        newest = w.newest;
        same = record { xid = refl; volumes = refl; views = refl; objects = objects.1; records = refl; used = owned.1; free = refl; notes = refl };
      },
    )
