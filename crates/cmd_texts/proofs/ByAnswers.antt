-- Facts by what is answered.
use Rattle.std.specs.Prelude.{◌≡◌, ◌⊎◌, refl}
use Rattle.std.proofs.Common.{inl, inr}
use Rattle.path_search.specs.declared.answer.Answer.{Answer}
use Rattle.path_search.specs.declared.answer.Answer.TheVariants.{NotFound, NoVolume, NoSnapshot}
use Rattle.cmd_texts.specs.OnView.{ByAnswer}
use Rattle.cmd_texts.specs.Seen.{answered_of}

-- all three facts hold, so does that of the answer
pub for_answer : (answer : Answer) (A B C : Type 0) → A → B → C → ByAnswer answer A B C
for_answer NoVolume A B C a b c = a
for_answer NoSnapshot A B C a b c = b
for_answer answer A B C a b c = c

-- the answer is one of a path
abbrev pub IsOfPath : Answer → Type 0
IsOfPath answer = ByAnswer answer ⊥ ⊥ (Unit {0})

-- which of the three facts is that of the answer
pub which_answer : (answer : Answer) (A B C : Type 0) → ByAnswer answer A B C → ((answer ≡ NoVolume) × A) ⊎ (((answer ≡ NoSnapshot) × B) ⊎ C)
which_answer NoVolume A B C fact = inl (refl, fact)
which_answer NoSnapshot A B C fact = inr (inl (refl, fact))
which_answer answer A B C fact = inr (inr fact)

-- an answer of a path is answered as it is
pub answered_same : (answer : Answer) → IsOfPath answer → answered_of answer ≡ answer
answered_same NoVolume is = absurd is
answered_same NoSnapshot is = absurd is
answered_same answer is = refl

-- what is answered of a path is no answer of a volume or of a snapshot
pub answered_third : (answer : Answer) (A B C : Type 0) → ByAnswer (answered_of answer) A B C → C
answered_third NotFound A B C fact = fact
answered_third answer A B C fact = fact

-- the fact of an answer of a path is the third
pub of_path : (answer : Answer) (A B C : Type 0) → IsOfPath answer → C → ByAnswer answer A B C
of_path NoVolume A B C is c = absurd is
of_path NoSnapshot A B C is c = absurd is
of_path answer A B C is c = c
