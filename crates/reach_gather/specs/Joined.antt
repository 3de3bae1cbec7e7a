-- What is live from first namings, in parts: a part with a rest, and how parts are joined.
use Rattle.std.specs.Prelude.{◌≡◌, ◌⊎◌, ℕ, true, false, ◌==◌, List, [], ◌∷◌, ◌++◌, flat_map}
use Rattle.apfs_model.specs.Apart.{Apart}
use Rattle.apfs_model.specs.Lists.{In, Lists}
use Rattle.nx_ring.specs.Checkpoint.{Seen}
use Rattle.reach_rules.specs.declared.naming.LookUp.{LookUp}
use Rattle.reach_rules.specs.declared.naming.Namer.{Namer}
use Rattle.reach_rules.specs.declared.naming.Expected.{Expected}
use Rattle.reach_rules.specs.declared.naming.Naming.{Naming}
use Rattle.reach_rules.specs.Naming.{naming}
use Rattle.reach_rules.specs.Next.{next, unless_zero}
use Rattle.reach_rules.specs.Live.{Live}
use Rattle.reach_gather.specs.Namings.{IsPlainNaming, AreNamingsOf}
pub use Rattle.reach_gather.specs.Namings.{AreCounted}

-- some namings are all of what is live from first ones but for what a rest leads to: these, and what the rest leads to, are live and
-- nothing else; and each of these resolves to an object that is sound as it expects, without a feature
pub record AreAllOf (image : List ℕ) (seen : Seen) (first these rest : List Naming) : Type 0 where
  pub split : (n : Naming) → Live first (next image seen) n → In n these ⊎ Live rest (next image seen) n
  pub these_live : (n : Naming) → In n these → Live first (next image seen) n
  pub rest_live : (n : Naming) → Live rest (next image seen) n → Live first (next image seen) n
  pub plain : (n : Naming) → In n these → IsPlainNaming image seen n

-- some namings are a part of what is live from first ones: they are all of it but for what a rest leads to, and they are counted
pub record ArePart (image : List ℕ) (seen : Seen) (first these rest : List Naming) : Type 0 where
  pub split : (n : Naming) → Live first (next image seen) n → In n these ⊎ Live rest (next image seen) n
  pub these_live : (n : Naming) → In n these → Live first (next image seen) n
  pub rest_live : (n : Naming) → Live rest (next image seen) n → Live first (next image seen) n
  pub plain : (n : Naming) → In n these → IsPlainNaming image seen n
  pub counted : AreCounted image seen first these rest

-- two lists have the same items
pub record HaveSame (xs ys : List Naming) : Type 0 where
  pub there : (n : Naming) → In n xs → In n ys
  pub back : (n : Naming) → In n ys → In n xs

-- one after the other: what is live from first ones, and then from those that were left
abbrev pub AreOneByOne : List ℕ → Seen → Type 0
AreOneByOne image seen = (ns xs rs ys ss : List Naming) → ArePart image seen ns xs rs → ArePart image seen rs ys ss → ArePart image seen ns (xs ++ ys) ss

-- side by side: what is live from first ones, and from others
abbrev pub AreSideBySide : List ℕ → Seen → Type 0
AreSideBySide image seen = (ns ms xs ys rs ss : List Naming) → ArePart image seen ns xs rs → ArePart image seen ms ys ss → ArePart image seen (ns ++ ms) (xs ++ ys) (rs ++ ss)

-- a naming, and what is live from those to which it leads
abbrev pub AreStepped : List ℕ → Seen → Type 0
AreStepped image seen = (n : Naming) (xs rs : List Naming) → IsPlainNaming image seen n → ArePart image seen (next image seen n) xs rs → ArePart image seen (n ∷ []) (n ∷ xs) rs

-- how parts are joined
pub record PartsJoin (image : List ℕ) (seen : Seen) : Type 0 where
  pub none : ArePart image seen [] [] []
  pub left : (ns : List Naming) → ArePart image seen ns [] ns
  pub join : AreSideBySide image seen
  pub step : AreStepped image seen
  pub chain : AreOneByOne image seen
  pub all_of : (ns xs rs : List Naming) → ArePart image seen ns xs rs → AreAllOf image seen ns xs rs
  pub same : (ns xs ys rs ss : List Naming) → HaveSame xs ys → HaveSame rs ss → AreAllOf image seen ns xs rs → AreAllOf image seen ns ys ss
  pub live_same : (ns ms : List Naming) → HaveSame ns ms → (n : Naming) → Live ns (next image seen) n → Live ms (next image seen) n
  pub tree : (root : Naming) (xs : List Naming) → AreNamingsOf image seen root xs → ArePart image seen (root ∷ []) xs []
  pub listed : (ns xs : List Naming) → Lists xs (Live ns (next image seen)) → AreCounted image seen ns xs [] → ((n : Naming) → In n xs → IsPlainNaming image seen n) → ArePart image seen ns xs []
  pub apart : (ns xs : List Naming) → Apart xs → Lists xs (Live ns (next image seen)) → ((n : Naming) → In n xs → IsPlainNaming image seen n) → ArePart image seen ns xs []
  pub lists : (ns xs : List Naming) → AreAllOf image seen ns xs [] → Lists xs (Live ns (next image seen))
  pub each : (f g : Naming → List Naming) (ns : List Naming) → ((n : Naming) → In n ns → ArePart image seen (n ∷ []) (f n) (g n)) → ArePart image seen ns (flat_map f ns) (flat_map g ns)
  pub all : (f : Naming → List Naming) (ns : List Naming) → ((n : Naming) → In n ns → ArePart image seen (n ∷ []) (f n) []) → ArePart image seen ns (flat_map f ns) []
  pub zero : (namer : Namer) (at : ℕ) (e : Expected) (how : LookUp) (oid : ℕ) → (oid == 0) ≡ true → ArePart image seen (unless_zero namer at e how oid) [] []
  pub some : (namer : Namer) (at : ℕ) (e : Expected) (how : LookUp) (oid : ℕ) (xs rs : List Naming) → (oid == 0) ≡ false → ArePart image seen (naming namer at e how oid ∷ []) xs rs → ArePart image seen (unless_zero namer at e how oid) xs rs
