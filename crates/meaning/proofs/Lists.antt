-- Small facts of lists and choices.
use Rattle.std.proofs.Common.{◌≡◌, ℕ, Bool, true, false, cond, List, [], ◌∷◌, ◌++◌, refl}

pub cond_same : {A : Type 0} (b : Bool) (f : A) → cond b f f ≡ f
cond_same true f = refl
cond_same false f = refl

pub nil_left : (a b : List ℕ) → a ++ b ≡ [] → a ≡ []
nil_left [] b q = refl
nil_left (x ∷ a) b q = cc

pub nil_right : (a b : List ℕ) → a ++ b ≡ [] → b ≡ []
nil_right [] b q = q
nil_right (x ∷ a) b q = cc

pub nil_both : (a b : List ℕ) → a ≡ [] → b ≡ [] → a ++ b ≡ []
nil_both [] b p q = q
nil_both (x ∷ a) b p q = cc
