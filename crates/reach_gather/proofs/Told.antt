-- The ranges that were kept of a tree are those of which its root tells.
use Rattle.std.proofs.Common.{◌≡◌, ℕ, List, [], ◌∷◌, ◌++◌, ap, sym, ◌∙◌}
use Rattle.std.proofs.lemmas.List.{append-nil, append_assoc}
use Rattle.ext_ref.specs.declared.range.NewRange.{NewRange}
use Rattle.space_pool.specs.declared.entry.QueueEntry.{QueueEntry}
use Rattle.reach_rules.specs.declared.owner.Owner.{Owner}
use Rattle.reach_gather.specs.Held.{some_owners}

abbrev pub range_of_new : NewRange → ℕ × ℕ
range_of_new r = (r.first, r.length)

-- a block, and then what is told
pub told-after : (old mid new : List Owner) (o : Owner) (told same : List Owner) → mid ≡ old ++ o ∷ [] → new ≡ mid ++ some_owners told → told ≡ same → new ≡ old ++ o ∷ some_owners same
told-after old mid new o told same m e s = e ∙ (ap (λ xs. xs ++ some_owners told) m ∙ (append_assoc old (o ∷ []) (some_owners told) ∙ ap (λ xs. old ++ o ∷ some_owners xs) s))

abbrev pub range_of_entry : QueueEntry → ℕ × ℕ
range_of_entry e = (e.paddr, e.length)

-- nothing, and then what is told
pub told-next : (old mid new : List Owner) (told same : List Owner) → mid ≡ old → new ≡ mid ++ some_owners told → told ≡ same → new ≡ old ++ some_owners same
told-next old mid new told same m e s = e ∙ (ap (λ xs. xs ++ some_owners told) m ∙ ap (λ xs. old ++ some_owners xs) s)

pub told-none : (old mid new : List Owner) → mid ≡ old → new ≡ mid → new ≡ old ++ []
told-none old mid new m e = e ∙ (m ∙ sym (append-nil old))
