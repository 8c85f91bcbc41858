-- As many turns as there are rounds left are enough, so a loop is what its rounds make of it.
use Rattle.std.proofs.Common.{◌≡◌, ℕ, zero, suc, ◌≤◌, Bool, true, false, cond, List, [], ◌∷◌, Some, None, Option, refl, ap, le_refl, arith}
use mathlib.Core.Path.{fun_ext}
use Rattle.host.specs.Model.{Model, Value, World, Outcome, gives, throws, no_return}
use Rattle.meaning.specs.Completion.{Ending, normal, Evaluation, loop_continues, end, ◌thereafter◌, one_round, if_continues, turns, loop}
use Rattle.meaning.specs.Run.{act, eval_parts, eval, eval_optional, branch, branch_optional, renewed, while_loop, do_loop, for_body, run}
use Rattle.words.specs.Tree.{Expression, expression}
use Rattle.words.specs.Tree.{Statement, While, Do}
use Rattle.meaning.specs.Laws.{UnrollsWith}
use Rattle.meaning.proofs.Within.{Within}
use Rattle.meaning.proofs.Rounds.{Any, bounded}

-- what stands between two rounds takes none
abbrev Level : (Evaluation → Evaluation) → Type 0
Level again = (k : ℕ) (f g : Evaluation) → ((w : World) → f k w ≡ g k w) → (w : World) → again f k w ≡ again g k w

cond_at : (b : Bool) (f g j : Evaluation) (k : ℕ) → ((w : World) → f k w ≡ g k w) → (w : World) → cond b f j k w ≡ cond b g j k w
cond_at true f g j k p w = p w
cond_at false f g j k p w = refl

continues_at : (ls : List ℕ) (f g : Evaluation) (k : ℕ) → ((w : World) → f k w ≡ g k w) → (e : Ending) (w : World) → if_continues ls f e k w ≡ if_continues ls g e k w
unfolding if_continues
continues_at ls f g k p e w = cond_at (loop_continues ls e) f g _ k p w

turns_enough : (ls : List ℕ) (body : Evaluation) (again : Evaluation → Evaluation) → Within Any body → Level again →
    (n l k : ℕ) → k ≤ n → k ≤ l → (w : World) → turns ls body again n k w ≡ turns ls body again l k w
unfolding turns one_round ◌thereafter◌
turns_enough ls body again p q zero zero k a b w = refl
turns_enough ls body again p q zero (suc l) zero a b w = refl
turns_enough ls body again p q zero (suc l) (suc k) a b w = absurd (omega arith)
turns_enough ls body again p q (suc n) zero zero a b w = refl
turns_enough ls body again p q (suc n) zero (suc k) a b w = absurd (omega arith)
turns_enough ls body again p q (suc n) (suc l) zero a b w = refl
turns_enough ls body again p q (suc n) (suc l) (suc k) a b w =
    let r : (body k w).rounds ≤ k = (p k w).1 in
    continues_at ls (again (turns ls body again n)) (again (turns ls body again l)) (body k w).rounds
    (q (body k w).rounds _ _ (turns_enough ls body again p q n l (body k w).rounds (omega arith) (omega arith)))
    (body k w).ending (body k w).world

unroll : (ls : List ℕ) (body : Evaluation) (again : Evaluation → Evaluation) → Within Any body → Level again →
    loop ls body again ≡ one_round (body thereafter if_continues ls (again (loop ls body again)))
unfolding loop turns one_round ◌thereafter◌
unroll ls body again p q = fun_ext λ k. fun_ext λ w. go k w
  where
    go : (k : ℕ) (w : World) → turns ls body again k k w ≡ one_round (body thereafter if_continues ls (again (loop ls body again))) k w
    go zero w = refl
    go (suc k) w =
        let r : (body k w).rounds ≤ k = (p k w).1 in
        continues_at ls (again (turns ls body again k)) (again (loop ls body again)) (body k w).rounds
        (q (body k w).rounds _ _ (turns_enough ls body again p q k (body k w).rounds (body k w).rounds (omega arith) (le_refl _)))
        (body k w).ending (body k w).world

act_at : {A : Type 0} (o : Outcome A) (c d : A → Evaluation) (k : ℕ) → ((a : A) (w : World) → c a k w ≡ d a k w) → (w : World) → act o c k w ≡ act o d k w
unfolding act
act_at (gives a u) c d k p w = p a u
act_at (throws v u) c d k p w = refl
act_at no_return c d k p w = refl

module _ (m : Model) where
  parts_at : (x : ℕ) (xs : List ℕ) (c d : Value → Evaluation) (k : ℕ) → ((v : Value) (w : World) → c v k w ≡ d v k w) → (w : World) → eval_parts m x xs c k w ≡ eval_parts m x xs d k w
  unfolding eval_parts
  parts_at x [] c d k p w = act_at (m.evaluate x w) c d k p w
  parts_at x (y ∷ ys) c d k p w = act_at (m.evaluate x w) _ _ k (λ _. parts_at y ys c d k p) w

  eval_at : (e : Expression) (c d : Value → Evaluation) (k : ℕ) → ((v : Value) (w : World) → c v k w ≡ d v k w) → (w : World) → eval m e c k w ≡ eval m e d k w
  unfolding eval
  eval_at (expression x xs) c d k p w = parts_at x xs c d k p w

  level_branch : (e : Expression) → Level (λ next. branch m e next (end normal))
  unfolding branch
  level_branch e k f g p w = eval_at e _ _ k (λ v. cond_at (m.truthy v) f g (end normal) k p) w

  level_branch_optional : (t : Option Expression) → Level (λ next. branch_optional m t next (end normal))
  unfolding branch_optional
  level_branch_optional None k f g p w = p w
  level_branch_optional (Some e) k f g p w = level_branch e k f g p w

  level_eval_optional : (u : Option Expression) → Level (eval_optional m u)
  unfolding eval_optional
  level_eval_optional None k f g p w = p w
  level_eval_optional (Some e) k f g p w = eval_at e _ _ k (λ v. p) w

  pub while_unrolls : (e : Expression) (s : Statement) (ls : List ℕ) →
      run m (While e s) ls ≡ branch m e (one_round (run m s [] thereafter if_continues ls (run m (While e s) ls))) (end normal)
  unfolding run while_loop
  while_unrolls e s ls = ap (λ x. branch m e x (end normal)) (unroll ls (run m s []) _ (bounded m s []) (level_branch e))

  pub do_unrolls : (s : Statement) (e : Expression) (ls : List ℕ) →
      run m (Do s e) ls ≡ one_round (run m s [] thereafter if_continues ls (branch m e (run m (Do s e) ls) (end normal)))
  unfolding run do_loop
  do_unrolls s e ls = unroll ls (run m s []) _ (bounded m s []) (level_branch e)

  for_unrolls : (renewal : Evaluation → Evaluation) → Level renewal → UnrollsWith m renewal
  unfolding for_body
  for_unrolls renewal q t u s ls =
      ap (λ x. branch_optional m t x (end normal))
      (unroll ls (run m s []) _ (bounded m s []) (λ k f g p. q k _ _ (level_eval_optional u k _ _ (level_branch_optional t k f g p))))

  level_renewed : Level (renewed m)
  unfolding renewed
  level_renewed k f g p w = p (m.renew w)

  pub for_unrolls_plain : UnrollsWith m (λ next. next)
  for_unrolls_plain = for_unrolls _ (λ k f g p. p)

  pub for_unrolls_renewed : UnrollsWith m (renewed m)
  for_unrolls_renewed = for_unrolls (renewed m) level_renewed
