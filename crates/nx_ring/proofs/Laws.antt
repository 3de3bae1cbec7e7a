-- What the test of a candidate means, and what the ephemeral map finds.
use Rattle.std.specs.Prelude.{◌≡◌, ℕ, Bool, true, false, ◌==◌, List, [], ◌∷◌, map, Some, cond}
use Rattle.std.proofs.Common.{arith, refl, inl, inr}
use Rattle.std.specs.List.{find}
use Rattle.std.proofs.lemmas.Grind.{common_steps}
use Rattle.apfs_model.specs.Lists.{In}
use Rattle.nx_ring.specs.Objects.{Place}
use Rattle.nx_ring.specs.Checkpoint.{Seen, eph}
use Rattle.nx_ring.specs.Reading.{eph_ids}

found_here : (oid : ℕ) (q p : Place) (ps : List Place) (b : Bool) → (q.oid == oid) ≡ b → cond b (Some q) (find (λ (r : Place). r.oid == oid) ps) ≡ Some p → (find (λ (r : Place). r.oid == oid) ps ≡ Some p → In oid (map (λ (r : Place). r.oid) ps)) → In oid (map (λ (r : Place). r.oid) (q ∷ ps))
found_here oid q p ps true e f rec = inl (Prim.grind (arith, common_steps, e))
found_here oid q p ps false e f rec = inr (rec f)

found_in : (oid : ℕ) (p : Place) (ps : List Place) → find (λ (r : Place). r.oid == oid) ps ≡ Some p → In oid (map (λ (r : Place). r.oid) ps)
found_in oid p [] e = absurd (Prim.cc)
found_in oid p (q ∷ ps) e = found_here oid q p ps (q.oid == oid) refl e (found_in oid p ps)

-- an oid that the ephemeral map finds is one of its oids
pub eph_in : (seen : Seen) (oid : ℕ) (p : Place) → eph seen oid ≡ Some p → In oid (eph_ids seen)
unfolding eph eph_ids
eph_in seen oid p e = found_in oid p seen.mapped e
