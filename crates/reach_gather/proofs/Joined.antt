-- How parts of what is live are joined.
use Rattle.std.proofs.Common.{◌≡◌, ℕ, true, false, ◌==◌, List, [], ◌∷◌, ◌++◌, ◌⊎◌, inl, inr, refl, sym, subst, if◌then◌else◌}
use Rattle.std.specs.List.{flat_map}
use Rattle.apfs_model.specs.Apart.{Apart}
use Rattle.apfs_model.specs.Lists.{In, Lists}
use Rattle.apfs_model.proofs.Searches.{in-left, in-right, in-append}
use Rattle.nx_ring.specs.Checkpoint.{Seen}
use Rattle.reach_rules.specs.declared.naming.LookUp.{LookUp}
use Rattle.reach_rules.specs.declared.naming.Namer.{Namer}
use Rattle.reach_rules.specs.declared.naming.Expected.{Expected}
use Rattle.reach_rules.specs.declared.naming.Naming.{Naming}
use Rattle.reach_rules.specs.Naming.{naming}
use Rattle.reach_rules.specs.Next.{next, unless_zero}
use Rattle.reach_rules.specs.Live.{Live, rooted, led}
use Rattle.reach_rules.proofs.Lives.{live-left, live-right, live-append, live-none, live-next, from-next-live}
use Rattle.reach_gather.specs.Namings.{IsPlainNaming, AreCounted, AreNamingsOf}
use Rattle.reach_gather.specs.Joined.{AreAllOf, ArePart, HaveSame, PartsJoin}
use Rattle.reach_gather.proofs.Counted.{counts-none, counts-left, counts-join, counts-step, counts-chain, counts-apart}

pub part-none : (image : List ℕ) (seen : Seen) → ArePart image seen [] [] []
part-none image seen = record {
  split = λ n live. inr live;
  these_live = λ n h. absurd h;
  rest_live = λ n live. live;
  plain = λ n h. absurd h;
  counted = counts-none (next image seen);
}

pub part-left : (image : List ℕ) (seen : Seen) (ns : List Naming) → ArePart image seen ns [] ns
part-left image seen ns = record {
  split = λ n live. inr live;
  these_live = λ n h. absurd h;
  rest_live = λ n live. live;
  plain = λ n h. absurd h;
  counted = counts-left (next image seen) ns;
}

pub part-join : (image : List ℕ) (seen : Seen) (ns ms xs ys rs ss : List Naming) → ArePart image seen ns xs rs → ArePart image seen ms ys ss → ArePart image seen (ns ++ ms) (xs ++ ys) (rs ++ ss)
part-join image seen ns ms xs ys rs ss a b =
    let leads : Naming → List Naming = next image seen in
    record {
      split = λ n live. elim (live-append leads ns ms n live) as (λ _. In n (xs ++ ys) ⊎ Live (rs ++ ss) leads n) [
        | inl l ↦ elim (a.split n l) as (λ _. In n (xs ++ ys) ⊎ Live (rs ++ ss) leads n) [ inl h ↦ inl (in-left n xs ys h) | inr m ↦ inr (live-left leads rs ss n m) ]
        | inr l ↦ elim (b.split n l) as (λ _. In n (xs ++ ys) ⊎ Live (rs ++ ss) leads n) [ inl h ↦ inl (in-right n xs ys h) | inr m ↦ inr (live-right leads rs ss n m) ]
      ];
      these_live = λ n h. elim (in-append n xs ys h) as (λ _. Live (ns ++ ms) leads n) [ inl k ↦ live-left leads ns ms n (a.these_live n k) | inr k ↦ live-right leads ns ms n (b.these_live n k) ];
      rest_live = λ n live. elim (live-append leads rs ss n live) as (λ _. Live (ns ++ ms) leads n) [ inl l ↦ live-left leads ns ms n (a.rest_live n l) | inr l ↦ live-right leads ns ms n (b.rest_live n l) ];
      plain = λ n h. elim (in-append n xs ys h) as (λ _. IsPlainNaming image seen n) [ inl k ↦ a.plain n k | inr k ↦ b.plain n k ];
      counted = counts-join leads ns ms xs ys rs ss a.counted b.counted;
    }

pub part-step : (image : List ℕ) (seen : Seen) (n : Naming) (xs rs : List Naming) → IsPlainNaming image seen n → ArePart image seen (next image seen n) xs rs → ArePart image seen (n ∷ []) (n ∷ xs) rs
part-step image seen n xs rs p a =
    let leads : Naming → List Naming = next image seen in
    record {
      split = λ m live. elim (live-next leads n m live) as (λ _. In m (n ∷ xs) ⊎ Live rs leads m) [
        | inl e ↦ inl (inl e)
        | inr l ↦ elim (a.split m l) as (λ _. In m (n ∷ xs) ⊎ Live rs leads m) [ inl h ↦ inl (inr h) | inr k ↦ inr k ]
      ];
      these_live = λ m h. elim h as (λ _. Live (n ∷ []) leads m) [ inl e ↦ rooted m (inl e) | inr k ↦ from-next-live leads n m (a.these_live m k) ];
      rest_live = λ m live. from-next-live leads n m (a.rest_live m live);
      plain = λ m h. elim h as (λ _. IsPlainNaming image seen m) [ inl e ↦ subst (IsPlainNaming image seen) (sym e) p | inr k ↦ a.plain m k ];
      counted = counts-step leads n xs rs a.counted;
    }

pub part-chain : (image : List ℕ) (seen : Seen) (ns xs rs ys ss : List Naming) → ArePart image seen ns xs rs → ArePart image seen rs ys ss → ArePart image seen ns (xs ++ ys) ss
part-chain image seen ns xs rs ys ss a b =
    let leads : Naming → List Naming = next image seen in
    record {
      split = λ n live. elim (a.split n live) as (λ _. In n (xs ++ ys) ⊎ Live ss leads n) [
        | inl h ↦ inl (in-left n xs ys h)
        | inr l ↦ elim (b.split n l) as (λ _. In n (xs ++ ys) ⊎ Live ss leads n) [ inl h ↦ inl (in-right n xs ys h) | inr k ↦ inr k ]
      ];
      these_live = λ n h. elim (in-append n xs ys h) as (λ _. Live ns leads n) [ inl k ↦ a.these_live n k | inr k ↦ a.rest_live n (b.these_live n k) ];
      rest_live = λ n live. a.rest_live n (b.rest_live n live);
      plain = λ n h. elim (in-append n xs ys h) as (λ _. IsPlainNaming image seen n) [ inl k ↦ a.plain n k | inr k ↦ b.plain n k ];
      counted = counts-chain leads ns xs rs ys ss a.counted b.counted;
    }

-- what is live from some things is live from all that have them
pub live-among : {N : Type 0} (leads : N → List N) (rs ss : List N) (n : N) → ((m : N) → In m rs → In m ss) → Live rs leads n → Live ss leads n
live-among leads rs ss n f (rooted _ h) = rooted n (f n h)
live-among leads rs ss n f (led m _ live h) = led m n (live-among leads rs ss m f live) h

-- ---- without the count
-- a part is all but what its rest leads to
pub part-all-of : (image : List ℕ) (seen : Seen) (ns xs rs : List Naming) → ArePart image seen ns xs rs → AreAllOf image seen ns xs rs
part-all-of image seen ns xs rs a = record { split = a.split; these_live = a.these_live; rest_live = a.rest_live; plain = a.plain }

pub part-same : (image : List ℕ) (seen : Seen) (ns xs ys rs ss : List Naming) → HaveSame xs ys → HaveSame rs ss → AreAllOf image seen ns xs rs → AreAllOf image seen ns ys ss
part-same image seen ns xs ys rs ss s t a =
    let leads : Naming → List Naming = next image seen in
    record {
      split = λ n live. elim (a.split n live) as (λ _. In n ys ⊎ Live ss leads n) [ inl h ↦ inl (s.there n h) | inr l ↦ inr (live-among leads rs ss n t.there l) ];
      these_live = λ n h. a.these_live n (s.back n h);
      rest_live = λ n live. a.rest_live n (live-among leads ss rs n t.back live);
      plain = λ n h. a.plain n (s.back n h);
    }

-- ---- lists of all that is live
pub part-listed : (image : List ℕ) (seen : Seen) (ns xs : List Naming) → Lists xs (Live ns (next image seen)) → AreCounted image seen ns xs [] → ((n : Naming) → In n xs → IsPlainNaming image seen n) → ArePart image seen ns xs []
part-listed image seen ns xs l c p = record {
  split = λ n live. inl (l.1 n live);
  these_live = λ n h. l.0 n h;
  rest_live = λ n live. absurd (live-none (next image seen) n live);
  plain = λ n h. p n h;
  counted = c;
}

-- where none stands twice the count follows
pub part-apart : (image : List ℕ) (seen : Seen) (ns xs : List Naming) → Apart xs → Lists xs (Live ns (next image seen)) → ((n : Naming) → In n xs → IsPlainNaming image seen n) → ArePart image seen ns xs []
part-apart image seen ns xs apart l p = part-listed image seen ns xs l (counts-apart (next image seen) ns xs apart l) p

pub part-lists : (image : List ℕ) (seen : Seen) (ns xs : List Naming) → AreAllOf image seen ns xs [] → Lists xs (Live ns (next image seen))
part-lists image seen ns xs a = (
  (λ n h. a.these_live n h),
  (λ n live. elim (a.split n live) as (λ _. In n xs) [ inl h ↦ h | inr l ↦ absurd (live-none (next image seen) n l) ]),
)

pub part-tree : (image : List ℕ) (seen : Seen) (root : Naming) (xs : List Naming) → AreNamingsOf image seen root xs → ArePart image seen (root ∷ []) xs []
part-tree image seen root xs t = part-listed image seen (root ∷ []) xs t.live t.counted t.plain

pub part-each : (image : List ℕ) (seen : Seen) (f g : Naming → List Naming) (ns : List Naming) → ((n : Naming) → In n ns → ArePart image seen (n ∷ []) (f n) (g n)) → ArePart image seen ns (flat_map f ns) (flat_map g ns)
part-each image seen f g [] h = part-none image seen
part-each image seen f g (n ∷ ns) h = part-join image seen (n ∷ []) ns (f n) (flat_map f ns) (g n) (flat_map g ns) (h n (inl refl)) (part-each image seen f g ns (λ m k. h m (inr k)))

pub part-all : (image : List ℕ) (seen : Seen) (f : Naming → List Naming) (ns : List Naming) → ((n : Naming) → In n ns → ArePart image seen (n ∷ []) (f n) []) → ArePart image seen ns (flat_map f ns) []
part-all image seen f [] h = part-none image seen
part-all image seen f (n ∷ ns) h = part-join image seen (n ∷ []) ns (f n) (flat_map f ns) [] [] (h n (inl refl)) (part-all image seen f ns (λ m k. h m (inr k)))

-- ---- a field in which 0 names nothing
pub part-zero : (image : List ℕ) (seen : Seen) (namer : Namer) (at : ℕ) (e : Expected) (how : LookUp) (oid : ℕ) → (oid == 0) ≡ true → ArePart image seen (unless_zero namer at e how oid) [] []
part-zero image seen namer at e how oid z = subst (λ b. ArePart image seen (if b then [] else naming namer at e how oid ∷ []) [] []) (sym z) (part-none image seen)

pub part-some : (image : List ℕ) (seen : Seen) (namer : Namer) (at : ℕ) (e : Expected) (how : LookUp) (oid : ℕ) (xs rs : List Naming) → (oid == 0) ≡ false → ArePart image seen (naming namer at e how oid ∷ []) xs rs → ArePart image seen (unless_zero namer at e how oid) xs rs
part-some image seen namer at e how oid xs rs z a = subst (λ b. ArePart image seen (if b then [] else naming namer at e how oid ∷ []) xs rs) (sym z) a

-- ---- all of them
pub parts-join : (image : List ℕ) (seen : Seen) → PartsJoin image seen
parts-join image seen = record {
  none = part-none image seen;
  left = part-left image seen;
  join = part-join image seen;
  step = part-step image seen;
  chain = part-chain image seen;
  all_of = part-all-of image seen;
  same = part-same image seen;
  live_same = λ ns ms s n live. live-among (next image seen) ns ms n s.there live;
  tree = part-tree image seen;
  listed = part-listed image seen;
  apart = part-apart image seen;
  lists = part-lists image seen;
  each = part-each image seen;
  all = part-all image seen;
  zero = part-zero image seen;
  some = part-some image seen;
}
