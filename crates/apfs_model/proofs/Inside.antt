-- Blocks of a container.
use Rattle.std.proofs.Common.{◌≡◌, ℕ, Bool, true, false, ◌&&◌, nat_lt, Option, Some, None, refl, if◌then◌else◌}
use Rattle.std.specs.Prelude.{is_some}
use Rattle.apfs_model.specs.Blocks.{in_container}

-- a block that is found is the one that was asked for
pub inside-same : (blocks block b : ℕ) → in_container blocks block ≡ Some b → b ≡ block
inside-same blocks block b e =
    let go : (t : Bool) → (if t then Some block else None) ≡ Some b → b ≡ block = λ t. elim t as (λ t. (if t then Some block else None) ≡ Some b → b ≡ block) [
      | true ↦ λ s. let z : ◌≡◌ {A = Option ℕ} (Some block) (Some b) = s in cc
      | false ↦ λ s. let z : ◌≡◌ {A = Option ℕ} None (Some b) = s in absurd (let q : ⊥ = cc in q)
    ] in
    go (nat_lt 0 block && nat_lt block blocks) e

-- a block of the container is found
pub inside-itself : (blocks block : ℕ) → is_some (in_container blocks block) ≡ true → in_container blocks block ≡ Some block
inside-itself blocks block h =
    let go : (t : Bool) → is_some (if t then Some block else None) ≡ true → (if t then Some block else None) ≡ Some block = λ t. elim t as (λ t. is_some (if t then Some block else None) ≡ true → (if t then Some block else None) ≡ Some block) [
      | true ↦ λ e. refl
      | false ↦ λ e. absurd (let z : false ≡ true = e in let q : ⊥ = cc in q)
    ] in
    go (nat_lt 0 block && nat_lt block blocks) h
