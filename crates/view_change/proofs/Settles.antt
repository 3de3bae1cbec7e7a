-- What two runs of facts have more and less than one another, fact by fact.
use Rattle.std.proofs.Common.{◌≡◌, ◌≤◌, ◌+◌, ◌∙◌, ℕ, List, [], ◌∷◌, ◌++◌, length, take, drop, ap, sym, subst, arith, append_assoc, append-nil}
use Rattle.std.specs.Prelude.{◌-◌, Some, slice_get}
use Rattle.std.proofs.Math.Seq.{take-add, take-length}
use Rattle.rule_changes.specs.Changes.{Weaves, AreWoven, ended}
use Rattle.view_rules.specs.Facts.{Facts}
use Rattle.view_change.specs.Numbers.{joined}
use Rattle.view_change.specs.Settled.{IsSettled, AreSettled}
use Rattle.view_change.proofs.Joined.{take-next}
use Rattle.view_change.proofs.Weaving.{append-woven, more-stay, more-differ}

-- nothing is told yet
pub settled-none : {X : Type 0} (gone come : List X) → IsSettled [] [] gone gone come come
settled-none gone come = record {
  same = [];
  lost = [];
  made = [];
  left = ended;
  right = ended;
  gone_too = sym (append-nil gone);
  come_too = sym (append-nil come);
}

-- some that were read have come
settled-made : {X : Type 0} {passed read gone lost come made : List X} (more all : List X) → all ≡ made ++ more → IsSettled passed read gone lost come made → IsSettled passed (read ++ more) gone lost come all
settled-made {come = come} more all e so = record {
  same = so.same;
  lost = so.lost;
  made = so.made ++ more;
  left = so.left;
  right = more-differ more so.right;
  gone_too = so.gone_too;
  come_too = e ∙ (ap (λ xs. xs ++ more) so.come_too ∙ append_assoc come so.made more);
}

-- one that was passed is gone
pub settled-lost : {X : Type 0} {passed read gone lost come made : List X} (x : X) (all : List X) → all ≡ lost ++ x ∷ [] → IsSettled passed read gone lost come made → IsSettled (passed ++ x ∷ []) read gone all come made
settled-lost {gone = gone} x all e so = record {
  same = so.same;
  lost = so.lost ++ x ∷ [];
  made = so.made;
  left = more-differ (x ∷ []) so.left;
  right = so.right;
  gone_too = e ∙ (ap (λ xs. xs ++ x ∷ []) so.gone_too ∙ append_assoc gone so.lost (x ∷ []));
  come_too = so.come_too;
}

-- one that was passed was read
settled-same : {X : Type 0} {passed read gone lost come made : List X} (x : X) → IsSettled passed read gone lost come made → IsSettled (passed ++ x ∷ []) (read ++ x ∷ []) gone lost come made
settled-same x so = record {
  same = so.same ++ x ∷ [];
  lost = so.lost;
  made = so.made;
  left = more-stay (x ∷ []) so.left;
  right = more-stay (x ∷ []) so.right;
  gone_too = so.gone_too;
  come_too = so.come_too;
}

-- the first items up to a place, and those from there to another
take-to : {X : Type 0} (from to : ℕ) (xs : List X) → from ≤ to → take to xs ≡ take from xs ++ take (to - from) (drop from xs)
take-to from to xs low = let e : to ≡ from + (to - from) = omega arith in ap (λ n. take n xs) e ∙ take-add from (to - from) xs

-- those that were read up to a place have come
pub settled-to : {X : Type 0} {passed gone lost come made : List X} (read all : List X) (from to : ℕ) → from ≤ to → all ≡ made ++ take (to - from) (drop from read) → IsSettled passed (take from read) gone lost come made → IsSettled passed (take to read) gone lost come all
settled-to {passed = passed} {gone = gone} {lost = lost} {come = come} read all from to low e so =
    subst (λ xs. IsSettled passed xs gone lost come all) (sym (take-to from to read low)) (settled-made (take (to - from) (drop from read)) all e so)

-- all the others that were read have come
pub settled-rest : {X : Type 0} {passed gone lost come made : List X} (read all : List X) (from : ℕ) → from ≤ length read → all ≡ made ++ take (length read - from) (drop from read) → IsSettled passed (take from read) gone lost come made → IsSettled passed read gone lost come all
settled-rest {passed = passed} {gone = gone} {lost = lost} {come = come} read all from low e so =
    subst (λ xs. IsSettled passed xs gone lost come all) (take-length read) (settled-to read all from (length read) low e so)

-- one that was passed was read at a place
pub settled-at : {X : Type 0} {passed gone lost come made : List X} (read : List X) (place : ℕ) (x : X) → slice_get read place ≡ Some x → IsSettled passed (take place read) gone lost come made → IsSettled (passed ++ x ∷ []) (take (place + 1) read) gone lost come made
settled-at {passed = passed} {gone = gone} {lost = lost} {come = come} {made = made} read place x at so =
    subst (λ xs. IsSettled (passed ++ x ∷ []) xs gone lost come made) (sym (take-next read place x at)) (settled-same x so)

-- the facts that are the same
pub same_of : {passed read gone lost come made : Facts} → AreSettled passed read gone lost come made → Facts
same_of {passed = passed} so = record {
  names = passed.names;
  inodes = so.inodes.same;
  entries = so.entries.same;
  attributes = so.attributes.same;
  links = so.links.same;
  siblings = so.siblings.same;
  extents = so.extents.same;
}

-- those before that go on with what was passed are woven of what is the same and what is gone
gone-kind : {X : Type 0} {all same passed read gone lost come made : List X} → Weaves all same gone → (so : IsSettled passed read gone lost come made) → Weaves (all ++ passed) (same ++ so.same) lost
gone-kind {all = all} {same = same} {passed = passed} w so = subst (λ xs. Weaves (all ++ passed) (same ++ so.same) xs) (sym so.gone_too) (append-woven w so.left)

pub gone-settled : {all same passed read gone lost come made : Facts} → AreWoven all same gone → (so : AreSettled passed read gone lost come made) → AreWoven (joined all passed) (joined same (same_of so)) lost
unfolding same_of
gone-settled w so = record {
  inodes = gone-kind w.inodes so.inodes;
  entries = gone-kind w.entries so.entries;
  attributes = gone-kind w.attributes so.attributes;
  links = gone-kind w.links so.links;
  siblings = gone-kind w.siblings so.siblings;
  extents = gone-kind w.extents so.extents;
}

-- those after that go on with what was read are woven of what is the same and what has come
come-kind : {X : Type 0} {all same passed read gone lost come made : List X} → Weaves all same come → (so : IsSettled passed read gone lost come made) → Weaves (all ++ read) (same ++ so.same) made
come-kind {all = all} {same = same} {read = read} w so = subst (λ xs. Weaves (all ++ read) (same ++ so.same) xs) (sym so.come_too) (append-woven w so.right)

pub come-settled : {all same passed read gone lost come made : Facts} → AreWoven all same come → (so : AreSettled passed read gone lost come made) → AreWoven (joined all read) (joined same (same_of so)) made
unfolding same_of
come-settled w so = record {
  inodes = come-kind w.inodes so.inodes;
  entries = come-kind w.entries so.entries;
  attributes = come-kind w.attributes so.attributes;
  links = come-kind w.links so.links;
  siblings = come-kind w.siblings so.siblings;
  extents = come-kind w.extents so.extents;
}
