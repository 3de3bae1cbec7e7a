-- What a cache keeps after a block that wasn't kept was put.
use Rattle.std.proofs.Common.{◌≡◌, ◌⊎◌, inl, inr, ℕ, ◌+◌, ◌-◌, ◌<◌, true, false, List, ◌∷◌, length, take, Option, is_some, Contains, nat_eq, Vec, sym, ap, subst, ◌∙◌, arith, length-take, take_all}
use Rattle.std.proofs.lemmas.Bool.{cases_lt}
use Rattle.std.specs.Option.{option_map_or}
use Rattle.std.specs.Map.{lookup, remove_entry}
use Rattle.std.specs.Cmp.{nat_eq_equiv}
use Rattle.std.specs.declared.alloc.Global.{Global}
use Rattle.lru.specs.LruCache.{lru_cache, put_entries}
use Rattle.lru.proofs.CallerLemmas.{Contains-put_entries, lookup-put_entries}
use Rattle.obj_base.specs.BlockSize.{is_accepted}
use Rattle.blk_cache.specs.Keeping.{keeps, IsFull, IsCopy, IsCache, Grows}
use Rattle.blk_cache.specs.declared.store.Store.{Store}
use Rattle.blk_cache.proofs.Fronts.{no-entry, more}
use Rattle.blk_cache.proofs.Keeps.{Blocks, Entry, same-number}

-- a block was put
pub record IsPutIn (old new : Store) (block : ℕ) (v : Vec ℕ Global) : Type 0 where
  pub blocks : new.blocks ≡ lru_cache (put_entries nat_eq old.blocks block v) old.blocks.cap
  pub size : new.size ≡ old.size
  pub lost : new.lost ≡ old.lost

-- the entries of a cache after a block that it lacked was put
put-new : (old : Store) (block : ℕ) (v : Vec ℕ Global) → keeps old block ≡ false → put_entries nat_eq old.blocks block v ≡ (block, v) ∷ take (old.blocks.cap - 1) old.blocks.entries
put-new old block v lacks = ap (λ (o : Option Entry). option_map_or (λ e. (e.0, v) ∷ remove_entry (nat_eq block) old.blocks.entries) o ((block, v) ∷ take (old.blocks.cap - 1) old.blocks.entries)) (no-entry (nat_eq block) old.blocks.entries lacks)

entries-new : (old new : Store) (block : ℕ) (v : Vec ℕ Global) → keeps old block ≡ false → IsPutIn old new block v → new.blocks.entries ≡ (block, v) ∷ take (old.blocks.cap - 1) old.blocks.entries
entries-new old new block v lacks put = ap (λ (c : Blocks). c.entries) put.blocks ∙ put-new old block v lacks

length-new : (old new : Store) (block : ℕ) (v : Vec ℕ Global) → keeps old block ≡ false → IsPutIn old new block v → length new.blocks.entries ≡ length (take (old.blocks.cap - 1) old.blocks.entries) + 1
length-new old new block v lacks put = omega (arith, ap length (entries-new old new block v lacks put))

cap-new : (old new : Store) (block : ℕ) (v : Vec ℕ Global) → IsPutIn old new block v → new.blocks.cap ≡ old.blocks.cap
cap-new old new block v put = ap (λ (c : Blocks). c.cap) put.blocks

-- the block that was put is kept
pub put_kept : (old new : Store) (block : ℕ) (v : Vec ℕ Global) → IsPutIn old new block v → keeps new block ≡ true
put_kept old new block v put =
    ap (λ (c : Blocks). is_some (lookup (nat_eq block) c.entries)) put.blocks
    ∙ ap (λ (o : Option (Vec ℕ Global)). is_some o) (lookup-put_entries nat_eq old.blocks block v nat_eq_equiv)

-- where there is room a block that was kept is kept
stays-room : (old new : Store) (block b : ℕ) (v : Vec ℕ Global) → keeps old block ≡ false → IsPutIn old new block v → length old.blocks.entries < old.blocks.cap → keeps old b ≡ true → keeps new b ≡ true
stays-room old new block b v lacks put room kept =
    ap (λ (es : List Entry). is_some (lookup (nat_eq b) es)) (entries-new old new block v lacks put ∙ ap (λ (es : List Entry). (block, v) ∷ es) (take_all (old.blocks.cap - 1) old.blocks.entries (omega arith)))
    ∙ more (nat_eq b block) v (lookup (nat_eq b) old.blocks.entries) kept

module _ {S : Type 0} (bytes : S → Option (List ℕ)) (bytes_len : S → ℕ) (inner : S) (old new : Store) (block : ℕ) (v : Vec ℕ Global) where
  stays-put : IsCache bytes bytes_len inner old → keeps old block ≡ false → IsPutIn old new block v → (b : ℕ) → keeps old b ≡ true → (keeps new b ≡ true) ⊎ IsFull new
  stays-put cache lacks put b kept = elim (cases_lt (length old.blocks.entries) old.blocks.cap) [
    | inl room ↦ inl (stays-room old new block b v lacks put room kept)
    | inr full ↦ inr (omega (arith, full, cache.room, length-new old new block v lacks put, cap-new old new block v put, length-take (old.blocks.cap - 1) old.blocks.entries))
  ]

  pub put_grows : IsCache bytes bytes_len inner old → keeps old block ≡ false → IsPutIn old new block v → Grows old new
  put_grows cache lacks put = record {
    same_size = put.size;
    same_cap = cap-new old new block v put;
    longer = omega (arith, cache.fits, cache.room, length-new old new block v lacks put, length-take (old.blocks.cap - 1) old.blocks.entries);
    stays = stays-put cache lacks put;
    lost_later = omega (arith, put.lost);
  }

  copy-put : IsCache bytes bytes_len inner old → IsCopy bytes bytes_len inner old.size (block, v) → (entry : Entry) → Contains (put_entries nat_eq old.blocks block v) entry → IsCopy bytes bytes_len inner old.size entry
  copy-put cache copy entry there = elim (Contains-put_entries nat_eq old.blocks block v entry there) [
    | inl before ↦ cache.copies entry before
    | inr put ↦
        let number : block ≡ entry.0 = elim put.1 [ inl same ↦ sym same | inr old_one ↦ sym (same-number block entry.0 old_one.2) ] in
        let at : IsCopy bytes bytes_len inner old.size (entry.0, v) = subst (λ (n : ℕ). IsCopy bytes bytes_len inner old.size (n, v)) number copy in
        subst (λ (w : Vec ℕ Global). IsCopy bytes bytes_len inner old.size (entry.0, w)) (sym put.0) at
  ]

  pub put_cache : IsCache bytes bytes_len inner old → keeps old block ≡ false → IsCopy bytes bytes_len inner old.size (block, v) → IsPutIn old new block v → IsCache bytes bytes_len inner new
  put_cache cache lacks copy put = record {
    accepted = ap is_accepted put.size ∙ cache.accepted;
    room = omega (arith, cache.room, cap-new old new block v put);
    fits = omega (arith, cache.room, length-new old new block v lacks put, cap-new old new block v put, length-take (old.blocks.cap - 1) old.blocks.entries);
    copies = λ entry there.
        subst (λ (n : ℕ). IsCopy bytes bytes_len inner n entry) (sym put.size)
        (copy-put cache copy entry (subst (λ (c : Blocks). Contains c.entries entry) put.blocks there));
  }
