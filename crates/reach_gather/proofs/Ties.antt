-- Namings and owners that tie by their orders are one, and so are look-ups that are told as equal.
use Rattle.std.proofs.Common.{◌≡◌, Bool, true, false, List, [], ◌∷◌, inl, inr, refl, ap, sym, subst, ◌∙◌}
use Rattle.std.specs.declared.cmp.Ordering.{Ordering}
use Rattle.std.specs.declared.cmp.Ordering.TheVariants.{Less, Equal, Greater}
use Rattle.std.specs.Ordering.{nat_cmp, bool_cmp, ordering_then, ordering_reverse, is_eq}
use Rattle.std.proofs.lemmas.Map.Lookups.{CmpEqualImpliesEq, exact_unsigned}
use Rattle.id_lists.proofs.Repeats.{ties}
use denote.Struct.Field.{Field}
use denote.Enum.Declared.{Choice, intoss}
use denote.Enum.Compared.{Each, by}
use Rattle.omap_map.specs.declared.records.OmapRecord.{OmapRecord}
use Rattle.space_pool.specs.declared.entry.Queue.{Queue}
use Rattle.reach_rules.specs.declared.naming.ViewAt.{ViewAt}
use Rattle.reach_rules.specs.declared.naming.LookUp.{LookUp}
use Rattle.reach_rules.specs.declared.naming.Object.{Object}
use Rattle.reach_rules.specs.declared.naming.Namer.{Namer}
use Rattle.reach_rules.specs.declared.naming.TreeKind.{TreeKind}
use Rattle.reach_rules.specs.declared.naming.Expected.{Expected}
use Rattle.reach_rules.specs.declared.naming.Naming.{Naming}
use Rattle.reach_rules.specs.declared.owner.Who.{Who}
use Rattle.reach_rules.specs.declared.owner.Owner.{Owner}
use Rattle.reach_gather.specs.Finished.{is_look}
use Rattle.space_pool.specs.contracts.entry.Queue as queues
use Rattle.reach_rules.specs.contracts.naming.LookUp as looks
use Rattle.reach_rules.specs.contracts.naming.Object as objects
use Rattle.reach_rules.specs.contracts.naming.Namer as namers
use Rattle.reach_rules.specs.contracts.naming.TreeKind as kinds
use Rattle.reach_rules.specs.contracts.naming.Expected as expecteds
use Rattle.reach_rules.specs.contracts.owner.Who as whos
use Rattle.omap_map.specs.contracts.records.OmapRecordOrd.TheImpl as of_record
use Rattle.space_pool.specs.contracts.entry.QueueOrd.TheImpl as of_queue
use Rattle.reach_rules.specs.contracts.naming.ViewAtOrd.TheImpl as of_view
use Rattle.reach_rules.specs.contracts.naming.LookUpOrd.TheImpl as of_look
use Rattle.reach_rules.specs.contracts.naming.LookUpOrd.TheImpl.Laws as look_laws
use Rattle.reach_rules.specs.contracts.naming.ObjectOrd.TheImpl as of_object
use Rattle.reach_rules.specs.contracts.naming.NamerOrd.TheImpl as of_namer
use Rattle.reach_rules.specs.contracts.naming.TreeKindOrd.TheImpl as of_kind
use Rattle.reach_rules.specs.contracts.naming.ExpectedOrd.TheImpl as of_expected
use Rattle.reach_rules.specs.contracts.naming.NamingOrd.TheImpl as of_naming
use Rattle.reach_rules.specs.contracts.naming.NamingOrd.TheImpl.Laws as naming_laws
use Rattle.reach_rules.specs.contracts.owner.WhoOrd.TheImpl as of_who
use Rattle.reach_rules.specs.contracts.owner.OwnerOrd.TheImpl as of_owner
use Rattle.reach_rules.specs.contracts.naming.NamingPartialEq.TheImpl as same_naming
use Rattle.reach_rules.proofs.Equal.{record-is, view-is, naming-is, owner-is}

-- ---- the orders
abbrev record_rank : OmapRecord → OmapRecord → Ordering
record_rank = of_record.ghosts.cmp

abbrev queue_rank : Queue → Queue → Ordering
queue_rank = of_queue.ghosts.cmp

abbrev view_rank : ViewAt → ViewAt → Ordering
view_rank = of_view.ghosts.cmp

abbrev look_rank : LookUp → LookUp → Ordering
look_rank = of_look.ghosts.cmp

abbrev object_rank : Object → Object → Ordering
object_rank = of_object.ghosts.cmp

abbrev namer_rank : Namer → Namer → Ordering
namer_rank = of_namer.ghosts.cmp

abbrev kind_rank : TreeKind → TreeKind → Ordering
kind_rank = of_kind.ghosts.cmp

abbrev expected_rank : Expected → Expected → Ordering
expected_rank = of_expected.ghosts.cmp

abbrev naming_rank : Naming → Naming → Ordering
naming_rank = of_naming.ghosts.cmp

abbrev who_rank : Who → Who → Ordering
who_rank = of_who.ghosts.cmp

abbrev owner_rank : Owner → Owner → Ordering
owner_rank = of_owner.ghosts.cmp

-- ---- one order after another
both-tie : (c d : Ordering) → ordering_then c d ≡ Equal → (c ≡ Equal) × (d ≡ Equal)
both-tie Less d e = absurd (cc)
both-tie Equal d e = (refl, e)
both-tie Greater d e = absurd (cc)

flag-tie : (x y : Bool) → bool_cmp x y ≡ Equal → x ≡ y
flag-tie true true e = refl
flag-tie true false e = absurd (cc)
flag-tie false true e = absurd (cc)
flag-tie false false e = refl

-- ---- structs of numbers
pub record-one : CmpEqualImpliesEq record_rank
record-one a b e =
    let t1 = both-tie (nat_cmp a.oid b.oid) (ordering_then (nat_cmp a.xid b.xid) (ordering_then (nat_cmp a.flags b.flags) (ordering_then (nat_cmp a.size b.size) (nat_cmp a.paddr b.paddr)))) e in
    let t2 = both-tie (nat_cmp a.xid b.xid) (ordering_then (nat_cmp a.flags b.flags) (ordering_then (nat_cmp a.size b.size) (nat_cmp a.paddr b.paddr))) t1.1 in
    let t3 = both-tie (nat_cmp a.flags b.flags) (ordering_then (nat_cmp a.size b.size) (nat_cmp a.paddr b.paddr)) t2.1 in
    let t4 = both-tie (nat_cmp a.size b.size) (nat_cmp a.paddr b.paddr) t3.1 in
    record-is a b (exact_unsigned a.oid b.oid t1.0) (exact_unsigned a.xid b.xid t2.0) (exact_unsigned a.flags b.flags t3.0) (exact_unsigned a.size b.size t4.0) (exact_unsigned a.paddr b.paddr t4.1)

view-one : CmpEqualImpliesEq view_rank
view-one a b e =
    let t1 = both-tie (nat_cmp a.slot b.slot) (ordering_then (nat_cmp a.place b.place) (ordering_then (nat_cmp a.xid b.xid) (ordering_then (nat_cmp a.map b.map) (bool_cmp a.hashed b.hashed)))) e in
    let t2 = both-tie (nat_cmp a.place b.place) (ordering_then (nat_cmp a.xid b.xid) (ordering_then (nat_cmp a.map b.map) (bool_cmp a.hashed b.hashed))) t1.1 in
    let t3 = both-tie (nat_cmp a.xid b.xid) (ordering_then (nat_cmp a.map b.map) (bool_cmp a.hashed b.hashed)) t2.1 in
    let t4 = both-tie (nat_cmp a.map b.map) (bool_cmp a.hashed b.hashed) t3.1 in
    view-is a b (exact_unsigned a.slot b.slot t1.0) (exact_unsigned a.place b.place t2.0) (exact_unsigned a.xid b.xid t3.0) (exact_unsigned a.map b.map t4.0) (flag-tie a.hashed b.hashed t4.1)

-- ---- enums: what ties is one where it is so of each variant
abbrev AreExact : (Fss : List (List Field)) → Each Ordering Fss → Type 0
AreExact [] rs = Unit {0}
AreExact (Fs ∷ Fss) rs = CmpEqualImpliesEq rs.0 × AreExact Fss rs.1

choices-one : (Fss : List (List Field)) (rs : Each Ordering Fss) → AreExact Fss rs → (c d : Choice Fss) → by Less Greater Fss rs c d ≡ Equal → c ≡ d
choices-one [] rs all c d e = absurd c
choices-one (Fs ∷ Fss) rs all (inl x) (inl y) e = ap inl (all.0 x y e)
choices-one (Fs ∷ Fss) rs all (inl x) (inr y) e = absurd (cc)
choices-one (Fs ∷ Fss) rs all (inr x) (inl y) e = absurd (cc)
choices-one (Fs ∷ Fss) rs all (inr x) (inr y) e = ap inr (choices-one Fss rs.1 all.1 x y e)

-- of one field, and of two
field-one : {A : Type 0} (R : A → A → Ordering) → CmpEqualImpliesEq R → (x y : A × Unit {0}) → R x.0 y.0 ≡ Equal → x ≡ y
field-one {A} R one x y e = ap (λ (v : A). let p : A × Unit {0} = (v, tt) in p) (one x.0 y.0 e)

pair_of : {A B : Type 0} → A → B → A × (B × Unit {0})
pair_of a b = (a, (b, tt))

fields-one : {A B : Type 0} (R : A → A → Ordering) (S : B → B → Ordering) → CmpEqualImpliesEq R → CmpEqualImpliesEq S → (x y : A × (B × Unit {0})) → ordering_then (R x.0 y.0) (S x.1.0 y.1.0) ≡ Equal → x ≡ y
unfolding pair_of
fields-one {A} {B} R S one other x y e =
    let t = both-tie (R x.0 y.0) (S x.1.0 y.1.0) e in
    let p : x.0 ≡ y.0 = one x.0 y.0 t.0 in
    let q : x.1.0 ≡ y.1.0 = other x.1.0 y.1.0 t.1 in
    let k : pair_of x.0 x.1.0 ≡ pair_of y.0 y.1.0 = cc in k

-- a variant without fields
point : Unit {0} → Unit {0} → Ordering
point a b = Equal

at-point : CmpEqualImpliesEq point
at-point a b e = refl

queue-one : CmpEqualImpliesEq queue_rank
unfolding point
queue-one x y e =
    let ranks : Each Ordering queues.the_type.parts = (point, (point, tt)) in
    queues.the_type.to_one x y (ap (intoss queues.the_type.parts) (choices-one queues.the_type.parts ranks (at-point, (at-point, tt)) (queues.as_values x) (queues.as_values y) e))

look-one : CmpEqualImpliesEq look_rank
unfolding point
look-one x y e =
    let ranks : Each Ordering looks.the_type.parts = (point, (point, (point, ((λ a b. view_rank a.0 b.0), tt)))) in
    looks.the_type.to_one x y (ap (intoss looks.the_type.parts) (choices-one looks.the_type.parts ranks (at-point, (at-point, (at-point, (field-one view_rank view-one, tt)))) (looks.as_values x) (looks.as_values y) e))

object-one : CmpEqualImpliesEq object_rank
unfolding point
object-one x y e =
    let ranks : Each Ordering objects.the_type.parts = (point, ((λ a b. nat_cmp a.0 b.0), ((λ a b. nat_cmp a.0 b.0), ((λ a b. ordering_then (nat_cmp a.0 b.0) (record_rank a.1.0 b.1.0)), tt)))) in
    objects.the_type.to_one x y (ap (intoss objects.the_type.parts) (choices-one objects.the_type.parts ranks (at-point, (field-one nat_cmp exact_unsigned, (field-one nat_cmp exact_unsigned, (fields-one nat_cmp record_rank exact_unsigned record-one, tt)))) (objects.as_values x) (objects.as_values y) e))

namer-one : CmpEqualImpliesEq namer_rank
namer-one x y e =
    let ranks : Each Ordering namers.the_type.parts = ((λ a b. object_rank a.0 b.0), ((λ a b. view_rank a.0 b.0), tt)) in
    namers.the_type.to_one x y (ap (intoss namers.the_type.parts) (choices-one namers.the_type.parts ranks (field-one object_rank object-one, (field-one view_rank view-one, tt)) (namers.as_values x) (namers.as_values y) e))

kind-one : CmpEqualImpliesEq kind_rank
unfolding point
kind-one x y e =
    let ranks : Each Ordering kinds.the_type.parts = (point, (point, (point, (point, ((λ a b. queue_rank a.0 b.0), ((λ a b. bool_cmp a.0 b.0), tt)))))) in
    kinds.the_type.to_one x y (ap (intoss kinds.the_type.parts) (choices-one kinds.the_type.parts ranks (at-point, (at-point, (at-point, (at-point, (field-one queue_rank queue-one, (field-one bool_cmp flag-tie, tt)))))) (kinds.as_values x) (kinds.as_values y) e))

expected-one : CmpEqualImpliesEq expected_rank
unfolding point
expected-one x y e =
    let ranks : Each Ordering expecteds.the_type.parts = (point, (point, (point, (point, (point, ((λ a b. nat_cmp a.0 b.0), (point, (point, ((λ a b. view_rank a.0 b.0), ((λ a b. nat_cmp a.0 b.0), ((λ a b. nat_cmp a.0 b.0), ((λ a b. kind_rank a.0 b.0), ((λ a b. ordering_then (kind_rank a.0 b.0) (nat_cmp a.1.0 b.1.0)), tt))))))))))))) in
    expecteds.the_type.to_one x y (ap (intoss expecteds.the_type.parts) (choices-one expecteds.the_type.parts ranks (at-point, (at-point, (at-point, (at-point, (at-point, (field-one nat_cmp exact_unsigned, (at-point, (at-point, (field-one view_rank view-one, (field-one nat_cmp exact_unsigned, (field-one nat_cmp exact_unsigned, (field-one kind_rank kind-one, (fields-one kind_rank nat_cmp kind-one exact_unsigned, tt))))))))))))) (expecteds.as_values x) (expecteds.as_values y) e))

pub naming-one : CmpEqualImpliesEq naming_rank
naming-one a b e =
    let t1 = both-tie (namer_rank a.namer b.namer) (ordering_then (nat_cmp a.at b.at) (ordering_then (expected_rank a.expected b.expected) (ordering_then (look_rank a.how b.how) (nat_cmp a.oid b.oid)))) e in
    let t2 = both-tie (nat_cmp a.at b.at) (ordering_then (expected_rank a.expected b.expected) (ordering_then (look_rank a.how b.how) (nat_cmp a.oid b.oid))) t1.1 in
    let t3 = both-tie (expected_rank a.expected b.expected) (ordering_then (look_rank a.how b.how) (nat_cmp a.oid b.oid)) t2.1 in
    let t4 = both-tie (look_rank a.how b.how) (nat_cmp a.oid b.oid) t3.1 in
    naming-is a b (namer-one a.namer b.namer t1.0) (exact_unsigned a.at b.at t2.0) (expected-one a.expected b.expected t3.0) (look-one a.how b.how t4.0) (exact_unsigned a.oid b.oid t4.1)

who-one : CmpEqualImpliesEq who_rank
unfolding point
who-one x y e =
    let ranks : Each Ordering whos.the_type.parts = (point, (point, (point, (point, (point, (point, (point, ((λ a b. naming_rank a.0 b.0), ((λ a b. ordering_then (nat_cmp a.0 b.0) (record_rank a.1.0 b.1.0)), ((λ a b. ordering_then (naming_rank a.0 b.0) (nat_cmp a.1.0 b.1.0)), ((λ a b. nat_cmp a.0 b.0), tt))))))))))) in
    whos.the_type.to_one x y (ap (intoss whos.the_type.parts) (choices-one whos.the_type.parts ranks (at-point, (at-point, (at-point, (at-point, (at-point, (at-point, (at-point, (field-one naming_rank naming-one, (fields-one nat_cmp record_rank exact_unsigned record-one, (fields-one naming_rank nat_cmp naming-one exact_unsigned, (field-one nat_cmp exact_unsigned, tt))))))))))) (whos.as_values x) (whos.as_values y) e))

pub owner-one : CmpEqualImpliesEq owner_rank
owner-one a b e =
    let t1 = both-tie (nat_cmp a.first b.first) (ordering_then (nat_cmp a.blocks b.blocks) (who_rank a.who b.who)) e in
    let t2 = both-tie (nat_cmp a.blocks b.blocks) (who_rank a.who b.who) t1.1 in
    owner-is a b (who-one a.who b.who t2.1) (exact_unsigned a.first b.first t1.0) (exact_unsigned a.blocks b.blocks t2.0)

-- ---- and what is told as equal is one
abbrev pub naming_eq : Naming → Naming → Bool
naming_eq = same_naming.ghosts.eq

pub naming-same : (a b : Naming) → naming_eq a b ≡ true → a ≡ b
naming-same a b e = naming-one a b (ties (naming_rank a b) (sym (naming_laws.matches_eq-law a b) ∙ e))

pub look-same : (a b : LookUp) → is_look a b ≡ true → a ≡ b
look-same a b e = look-one a b (ties (look_rank a b) (sym (look_laws.matches_eq-law a b) ∙ e))

-- an order that is its own reverse ties
own-reverse : (o : Ordering) → o ≡ ordering_reverse o → is_eq o ≡ true
own-reverse Less e = absurd (cc)
own-reverse Equal e = refl
own-reverse Greater e = absurd (cc)

pub look-itself : (a : LookUp) → is_look a a ≡ true
look-itself a = look_laws.matches_eq-law a a ∙ own-reverse (look_rank a a) (look_laws.total-law.antisymm a a)

never-both : (b : Bool) → b ≡ true → b ≡ false → ⊥
never-both true t f = absurd (cc)
never-both false t f = absurd (cc)

-- and what is told as other is another
pub naming-other : (a b : Naming) → naming_eq a b ≡ false → a ≡ b → ⊥
naming-other a b e same = never-both (naming_eq a b) (subst (λ (n : Naming). naming_eq a n ≡ true) same (naming_laws.matches_eq-law a a ∙ own-reverse (naming_rank a a) (naming_laws.total-law.antisymm a a))) e
