-- The first directory from which parents never lead below 16.
use Rattle.std.proofs.Common.{◌≡◌, ℕ, ◌+◌, ◌<◌, true, List, [], ◌∷◌, ◌++◌, length, take, drop, get_or, ◌⊎◌, inl, inr, refl, ap, sym, ◌∙◌, subst, add-one}
use Rattle.std.proofs.lemmas.List.{take_more, take-append-drop}
use Rattle.std.proofs.Math.Seq.{drop-cons}
use Rattle.apfs_model.specs.Lists.{In}
use Rattle.fs_record.specs.Inodes.{Inode}
use Rattle.fs_record.specs.Facts.{Fact}
use Rattle.view_rules.specs.Facts.{Facts}
use Rattle.view_rules.specs.Directories.{Leads, is_user_directory, parent_at, IsUnreached}
use Rattle.parent_chain.specs.declared.ways.Way.{Way}
use Rattle.parent_chain.specs.Ways.{left_at, met_at, HasWaysOf}
use Rattle.parent_chain.specs.Climbs.{HasClimbed, HaveWays, IsFirstUnreached}
use Rattle.parent_chain.proofs.Climbing.{none-or}
use Rattle.parent_chain.proofs.WayLooks.{all-left, none-met}

-- before the first climb
pub none-climbed : (facts : Facts) (ways : List Way) → HasWaysOf facts.inodes ways → HasClimbed (parent_at facts) (left_at ways) (met_at ways) 0
none-climbed facts ways has = record {
  rest = record { right = λ id above h. sym (all-left facts ways has id) ∙ h; gone = λ id h. inl (sym (all-left facts ways has id) ∙ h) };
  before = λ id number h. none-or (met_at ways id) number (none-met facts.inodes ways has id) h;
  leads = λ id number h. none-or (met_at ways id) number (none-met facts.inodes ways has id) h;
}

pub in-push : {X : Type 0} (x y : X) (xs : List X) → In x (xs ++ y ∷ []) → In x xs ⊎ (x ≡ y)
in-push x y [] (inl e) = inr e
in-push x y [] (inr h) = absurd h
in-push x y (z ∷ xs) (inl e) = inl (inl e)
in-push x y (z ∷ xs) (inr h) = elim (in-push x y xs h) as (λ _. In x (z ∷ xs) ⊎ (x ≡ y)) [ inl a ↦ inl (inr a) | inr e ↦ inr e ]

in-middle : {X : Type 0} (x : X) (xs ys : List X) → In x (xs ++ x ∷ ys)
in-middle x [] ys = inl refl
in-middle x (z ∷ xs) ys = inr (in-middle x xs ys)

cut : {X : Type 0} (xs : List X) (i : ℕ) (d : X) → i < length xs → xs ≡ take i xs ++ get_or xs i d ∷ drop (i + 1) xs
cut xs i d l = rw add-one (sym (take-append-drop i xs) ∙ ap (λ ys. take i xs ++ ys) (drop-cons xs i d l))

-- parents lead from one more inode, or it is no such directory
pub ways-more : (facts : Facts) (items : List (Fact Inode)) (i : ℕ) (f : Fact Inode) → items ≡ facts.inodes → i < length items → f ≡ get_or items i f → HaveWays facts (take i facts.inodes)
    → (is_user_directory f ≡ true → Leads (parent_at facts) f.id) → HaveWays facts (take (i + 1) facts.inodes)
ways-more facts items i f same l is had here e listed directory =
    let low2 : i < length facts.inodes = subst (λ (ys : List (Fact Inode)). i < length ys) same l in
    let at : f ≡ get_or facts.inodes i f = is ∙ ap (λ (ys : List (Fact Inode)). get_or ys i f) same in
    elim (in-push e (get_or facts.inodes i f) (take i facts.inodes) (subst (λ ys. In e ys) (take_more facts.inodes i f low2) listed)) as (λ _. Leads (parent_at facts) e.id) [
      | inl m ↦ had e m directory
      | inr s ↦ let t : e ≡ f = s ∙ sym at in subst (λ (g : Fact Inode). Leads (parent_at facts) g.id) (sym t) (here (sym (ap is_user_directory t) ∙ directory))
    ]

-- the first from which they don't
pub first-here : (facts : Facts) (items : List (Fact Inode)) (i : ℕ) (f : Fact Inode) → items ≡ facts.inodes → i < length items → f ≡ get_or items i f → HaveWays facts (take i facts.inodes)
    → (is_user_directory f ≡ true) × (Leads (parent_at facts) f.id → ⊥) → IsFirstUnreached facts f
first-here facts items i f same l is had lost =
    let low2 : i < length facts.inodes = subst (λ (ys : List (Fact Inode)). i < length ys) same l in
    let at : f ≡ get_or facts.inodes i f = is ∙ ap (λ (ys : List (Fact Inode)). get_or ys i f) same in
    record {
      earlier = take i facts.inodes;
      later = drop (i + 1) facts.inodes;
      place = cut facts.inodes i f low2 ∙ ap (λ x. take i facts.inodes ++ x ∷ drop (i + 1) facts.inodes) (sym at);
      ways = had;
      directory = lost.0;
      lost = lost.1;
    }

-- it breaks the rule
pub first-broken : (facts : Facts) (f : Fact Inode) → IsFirstUnreached facts f → IsUnreached facts f.id
first-broken facts f first = record {
  item = f;
  listed = subst (λ ys. In f ys) (sym first.place) (in-middle f first.earlier first.later);
  same = refl;
  directory = first.directory;
  lost = first.lost;
}
