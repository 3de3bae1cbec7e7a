-- What a cache keeps after a call.
use Rattle.std.proofs.Common.{◌≡◌, inl, inr, ℕ, ◌+◌, ◌-◌, ◌*◌, ◌≤◌, ◌<◌, true, min, List, length, Option, Some, None, is_some, Contains, nat_eq, Vec, refl, sym, ap, subst, ◌∙◌, arith}
use Rattle.std.proofs.lemmas.Grind.{common_steps}
use Rattle.std.proofs.lemmas.Bool.Decides.{nat_tests}
use Rattle.std.specs.Map.{lookup}
use Rattle.std.specs.declared.alloc.Global.{Global}
use Rattle.lru.specs.LruCache.{LruCache, lru_cache, promoted, demoted}
use Rattle.lru.proofs.CallerLemmas.{Contains-lookup, Contains-promoted, Contains-demoted}
use Rattle.apfs_model.specs.Kept.{IsKept}
use Rattle.apfs_model.specs.Blocks.{block_of}
use Rattle.obj_base.specs.BlockSize.{is_accepted}
use Rattle.blk_cache.specs.Keeping.{keeps, Touches, IsCopy, IsCache, Grows, IsSame, IsReordered}
use Rattle.blk_cache.specs.declared.store.Store.{Store}
use Rattle.std.specs.Prelude.{IfSome, slice_range, ◌/◌}
use Rattle.blk_cache.proofs.Fronts.{promoted-found, promoted-length, demoted-found, demoted-length}
use Rattle.apfs_model.specs.Source.{Copies}
use Rattle.blk_cache.proofs.Ranges.{range-range, range-clip}

abbrev pub Blocks : Type 0
Blocks = LruCache ℕ (Vec ℕ Global)

abbrev pub Entry : Type 0
Entry = ℕ × Vec ℕ Global

pub same-number : (k j : ℕ) → nat_eq k j ≡ true → j ≡ k
same-number k j e = grind (arith, nat_tests, e)

-- an accepted block size
pub size_fits : (size : ℕ) → is_accepted size ≡ true → (1 ≤ size) × (size ≤ 65536)
size_fits size accepted = (grind (arith, common_steps, accepted), grind (arith, common_steps, accepted))

pub same_on : (old mid new : Store) → IsSame old mid → IsSame mid new → IsSame old new
same_on old mid new first second = record {
  same_blocks = λ block. second.same_blocks block ∙ first.same_blocks block;
  same_lost = second.same_lost ∙ first.same_lost;
}

-- a read touches the block of each of its bytes
pub touches : (size at done len : ℕ) → 1 ≤ size → done < len → Touches size at len ((at + done) / size)
touches size at done len some low = (omega arith, omega arith)

-- what stays kept over two calls
pub grows_on : (old mid new : Store) → length new.blocks.entries ≤ new.blocks.cap → Grows old mid → Grows mid new → Grows old new
grows_on old mid new fits first second = record {
  same_size = second.same_size ∙ first.same_size;
  same_cap = second.same_cap ∙ first.same_cap;
  longer = omega (arith, first.longer, second.longer);
  stays = λ b kept. elim (first.stays b kept) [
    | inl still ↦ second.stays b still
    | inr full ↦ inr (omega (arith, full, fits, second.longer, second.same_cap))
  ];
  lost_later = omega (arith, first.lost_later, second.lost_later);
}

-- a block that was made the one used last
pub served_same : (old new : Store) (block : ℕ) → new.blocks ≡ lru_cache (promoted (nat_eq block) old.blocks.entries) old.blocks.cap → new.lost ≡ old.lost → IsSame old new
served_same old new block e lost = record {
  same_blocks = λ b. ap (λ (c : Blocks). is_some (lookup (nat_eq b) c.entries)) e ∙ promoted-found (nat_eq block) (nat_eq b) old.blocks.entries;
  same_lost = lost;
}

served_length : (old new : Store) (block : ℕ) → new.blocks ≡ lru_cache (promoted (nat_eq block) old.blocks.entries) old.blocks.cap → length new.blocks.entries ≡ length old.blocks.entries
served_length old new block e = ap (λ (c : Blocks). length c.entries) e ∙ promoted-length (nat_eq block) old.blocks.entries

pub served_grows : (old new : Store) (block : ℕ) → new.blocks ≡ lru_cache (promoted (nat_eq block) old.blocks.entries) old.blocks.cap → new.size ≡ old.size → new.lost ≡ old.lost → Grows old new
served_grows old new block e size lost = record {
  same_size = size;
  same_cap = ap (λ (c : Blocks). c.cap) e;
  longer = omega (arith, served_length old new block e);
  stays = λ b kept. inl ((served_same old new block e lost).same_blocks b ∙ kept);
  lost_later = omega (arith, lost);
}

-- a block that was made the next one to go
pub demoted_same : (old new : Store) (block : ℕ) → new.blocks ≡ lru_cache (demoted (nat_eq block) old.blocks.entries) old.blocks.cap → new.size ≡ old.size → new.lost ≡ old.lost → IsReordered old new
demoted_same old new block e size lost = record {
  same_size = size;
  same_cap = ap (λ (c : Blocks). c.cap) e;
  same_length = ap (λ (c : Blocks). length c.entries) e ∙ demoted-length (nat_eq block) old.blocks.entries;
  same_blocks = λ b. ap (λ (c : Blocks). is_some (lookup (nat_eq b) c.entries)) e ∙ demoted-found (nat_eq block) (nat_eq b) old.blocks.entries;
  within = λ entry there. Contains-demoted (nat_eq block) old.blocks.entries entry (subst (λ (c : Blocks). Contains c.entries entry) e there);
  same_lost = lost;
}

-- a cache stays as it was where nothing was kept
pub lost_grows : (old new : Store) → new.blocks ≡ old.blocks → new.size ≡ old.size → old.lost ≤ new.lost → Grows old new
lost_grows old new e size later = record {
  same_size = size;
  same_cap = ap (λ (c : Blocks). c.cap) e;
  longer = omega (arith, ap (λ (c : Blocks). length c.entries) e);
  stays = λ b kept. inl (ap (λ (c : Blocks). is_some (lookup (nat_eq b) c.entries)) e ∙ kept);
  lost_later = later;
}

module _ {S : Type 0} (bytes : S → Option (List ℕ)) (bytes_len : S → ℕ) where
  -- what a look-up finds is a copy
  pub found_copy : (inner : S) (store : Store) (block : ℕ) (v : Vec ℕ Global) → IsCache bytes bytes_len inner store → lookup (nat_eq block) store.blocks.entries ≡ Some v → IsCopy bytes bytes_len inner store.size (block, v)
  found_copy inner store block v cache e =
      let (k, there, same) = Contains-lookup (nat_eq block) store.blocks.entries v e in
      subst (λ (n : ℕ). IsCopy bytes bytes_len inner store.size (n, v)) (same-number block k same) (cache.copies (k, v) there)

  kept-case : (inner : S) (store : Store) (block : ℕ) (o : Option (Vec ℕ Global)) → IsCache bytes bytes_len inner store → lookup (nat_eq block) store.blocks.entries ≡ o → is_some o ≡ true → store.size * block < bytes_len inner
  kept-case inner store block None cache e some = absurd (cc)
  kept-case inner store block (Some v) cache e some = (found_copy inner store block v cache e).inside

  -- a block that is kept lies before the source's end
  pub kept_inside : (inner : S) (store : Store) (block : ℕ) → IsCache bytes bytes_len inner store → keeps store block ≡ true → store.size * block < bytes_len inner
  kept_inside inner store block cache = kept-case inner store block (lookup (nat_eq block) store.blocks.entries) cache refl

  served-case : (inner : S) (store : Store) (block from n : ℕ) (part : List ℕ) (o : Option (Vec ℕ Global)) → IsCache bytes bytes_len inner store → lookup (nat_eq block) store.blocks.entries ≡ o → is_some o ≡ true → IfSome o (λ v. part ≡ slice_range v.items from (from + n)) → from + n ≤ store.size → (image : List ℕ) → bytes inner ≡ Some image → part ≡ slice_range image (store.size * block + from) (store.size * block + from + n)
  unfolding block_of
  served-case inner store block from n part None cache e some shown within image told = cc
  served-case inner store block from n part (Some v) cache e some shown within image told =
      shown
      ∙ ap (λ (l : List ℕ). slice_range l from (from + n)) ((found_copy inner store block v cache e).same image told)
      ∙ range-range image (store.size * block) store.size from n within

  -- a part of a block that is kept is that of the image
  pub served_found : (inner : S) (store : Store) (block from n : ℕ) (part : List ℕ) → IsCache bytes bytes_len inner store → keeps store block ≡ true → IfSome (lookup (nat_eq block) store.blocks.entries) (λ v. part ≡ slice_range v.items from (from + n)) → from + n ≤ store.size → (image : List ℕ) → bytes inner ≡ Some image → part ≡ slice_range image (store.size * block + from) (store.size * block + from + n)
  served_found inner store block from n part cache = served-case inner store block from n part (lookup (nat_eq block) store.blocks.entries) cache refl

  pub served_cache : (inner : S) (old new : Store) (block : ℕ) → IsCache bytes bytes_len inner old → new.blocks ≡ lru_cache (promoted (nat_eq block) old.blocks.entries) old.blocks.cap → new.size ≡ old.size → IsCache bytes bytes_len inner new
  served_cache inner old new block cache e size = record {
    accepted = ap is_accepted size ∙ cache.accepted;
    room = subst (λ (n : ℕ). 0 < n) (sym (ap (λ (c : Blocks). c.cap) e)) cache.room;
    fits = omega (arith, served_length old new block e, ap (λ (c : Blocks). c.cap) e, cache.fits);
    copies = λ entry there.
        subst (λ (n : ℕ). IsCopy bytes bytes_len inner n entry) (sym size)
        (cache.copies entry (Contains-promoted (nat_eq block) old.blocks.entries entry (subst (λ (c : Blocks). Contains c.entries entry) e there)));
  }

  pub reordered_cache : (inner : S) (old new : Store) → IsCache bytes bytes_len inner old → IsReordered old new → IsCache bytes bytes_len inner new
  reordered_cache inner old new cache order = record {
    accepted = ap is_accepted order.same_size ∙ cache.accepted;
    room = omega (arith, cache.room, order.same_cap);
    fits = omega (arith, cache.fits, order.same_length, order.same_cap);
    copies = λ entry there. subst (λ (n : ℕ). IsCopy bytes bytes_len inner n entry) (sym order.same_size) (cache.copies entry (order.within entry there));
  }

  pub lost_cache : (inner : S) (old new : Store) → IsCache bytes bytes_len inner old → new.blocks ≡ old.blocks → new.size ≡ old.size → IsCache bytes bytes_len inner new
  lost_cache inner old new cache e size = record {
    accepted = ap is_accepted size ∙ cache.accepted;
    room = subst (λ (n : ℕ). 0 < n) (sym (ap (λ (c : Blocks). c.cap) e)) cache.room;
    fits = omega (arith, ap (λ (c : Blocks). length c.entries) e, ap (λ (c : Blocks). c.cap) e, cache.fits);
    copies = λ entry there.
        subst (λ (n : ℕ). IsCopy bytes bytes_len inner n entry) (sym size)
        (cache.copies entry (subst (λ (c : Blocks). Contains c.entries entry) e there));
  }

  -- a source that keeps its bytes is cached as it was
  pub moved_cache : (faults : S → ℕ) (inner later : S) (store : Store) → IsCache bytes bytes_len inner store → IsKept bytes bytes_len faults inner later → IsCache bytes bytes_len later store
  moved_cache faults inner later store cache kept = record {
    accepted = cache.accepted;
    room = cache.room;
    fits = cache.fits;
    copies = λ entry there. record {
      inside = omega (arith, (cache.copies entry there).inside, kept.same_size);
      long = (cache.copies entry there).long ∙ ap (λ (n : ℕ). min store.size (n - store.size * entry.0)) (sym kept.same_size);
      same = λ image told. (cache.copies entry there).same image (sym kept.same_bytes ∙ told);
    };
  }

  -- a block that was read to its end is a copy
  pub read_copy : (inner : S) (size block : ℕ) (v : Vec ℕ Global) → ((s : S) (image : List ℕ) → bytes s ≡ Some image → length image ≡ bytes_len s) → size * block < bytes_len inner → length v.items ≡ min size (bytes_len inner - size * block) → ((image : List ℕ) → bytes inner ≡ Some image → Copies image (size * block) v.items) → IsCopy bytes bytes_len inner size (block, v)
  unfolding block_of
  read_copy inner size block v whole inside long read = record {
    inside = inside;
    long = long;
    same = λ image told.
        read image told
        ∙ ap (λ (n : ℕ). slice_range image (size * block) (size * block + n)) (long ∙ ap (λ (n : ℕ). min size (n - size * block)) (sym (whole inner image told)))
        ∙ range-clip image (size * block) size;
  }
