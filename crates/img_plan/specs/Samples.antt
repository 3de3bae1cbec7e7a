-- How many volumes the samples have.
use Rattle.std.specs.Prelude.{ℕ}
use Rattle.img_plan.specs.declared.which.Sample.{Sample}
use Rattle.img_plan.specs.declared.which.Sample.TheVariants.{S, H, V, V2, L, P, C, J, T}

-- how many volumes a sample has
abbrev pub volumes_of : Sample → ℕ
volumes_of S = 1
volumes_of H = 1
volumes_of V = 1
volumes_of V2 = 1
volumes_of L = 1
volumes_of P = 1
volumes_of C = 1
volumes_of J = 1
volumes_of T = 2
