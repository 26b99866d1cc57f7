-- Lines of texts that are read piece by piece.
use Rattle.std.proofs.Common.{◌≡◌, ◌≢◌, ℕ, ◌==◌, Bool, false, inl, inr, if◌then◌else◌, List, [], ◌∷◌, ◌++◌, refl, ap}
use Rattle.std.proofs.Common.{◌∙◌}
use Rattle.egt_probe.specs.Prelude.{eqb_tells, lines_of, with_byte, with_front}

-- a line feed ends the line
pub front_ended : (line : List ℕ) (lines : List (List ℕ)) → with_front line ([] ∷ lines) ≡ line ∷ lines
front_ended [] lines = refl
front_ended (x ∷ xs) lines = ap (with_byte x) (front_ended xs lines)

-- another byte belongs to it
pub front_grown : (line : List ℕ) (x : ℕ) (lines : List (List ℕ)) → with_front line (with_byte x lines) ≡ with_front (line ++ x ∷ []) lines
front_grown [] x lines = refl
front_grown (y ∷ ys) x lines = ap (with_byte y) (front_grown ys x lines)

-- at the end of the text a line that is not empty ends
pub front_last : (x : ℕ) (xs : List ℕ) → with_front (x ∷ xs) [] ≡ (x ∷ xs) ∷ []
front_last x [] = refl
front_last x (y ∷ ys) = ap (with_byte x) (front_last y ys)

no_feed : (x : ℕ) → x ≢ 10 → (x == 10) ≡ false
no_feed x other = elim (eqb_tells x 10) [ inl h ↦ absurd (other h.1) | inr h ↦ h.0 ]

pub byte_on : (x : ℕ) (xs : List ℕ) → x ≢ 10 → lines_of (x ∷ xs) ≡ with_byte x (lines_of xs)
byte_on x xs other = ap (λ (b : Bool). if b then [] ∷ lines_of xs else with_byte x (lines_of xs)) (no_feed x other)

-- what a line feed makes of the line that was begun, and what any other byte does
pub fed : (line : List ℕ) (x : ℕ) (more : List ℕ) → x ≡ 10 → with_front line (lines_of (x ∷ [] ++ more)) ≡ line ∷ lines_of more
fed line x more e = ap (λ (y : ℕ). with_front line (lines_of (y ∷ more))) e ∙ front_ended line (lines_of more)

pub grown : (line : List ℕ) (x : ℕ) (more : List ℕ) → x ≢ 10 → with_front line (lines_of (x ∷ [] ++ more)) ≡ with_front (line ++ x ∷ []) (lines_of more)
grown line x more other = ap (with_front line) (byte_on x more other) ∙ front_grown line x (lines_of more)
