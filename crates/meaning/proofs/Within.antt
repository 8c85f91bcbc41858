-- What every part of a run keeps: its ending is one of some, and it gains no rounds.
use Rattle.std.proofs.Common.{◌≡◌, ℕ, zero, suc, ◌≤◌, Bool, true, false, cond, List, [], ◌∷◌, Some, None, Option, refl, le_trans, le_refl, arith}
use Rattle.host.specs.Model.{Model, Value, World, Outcome, gives, throws, no_return, Declaration, by_var, by_let}
use Rattle.meaning.specs.Completion.{Ending, normal, gone, spent, return, throw, Evaluation, is_normal, is_stopped, thrown, loop_continues, without_break, without_break_to, end, ◌thereafter◌, if_normal, ◌then◌, breakable, with_label, handle, catch_by, unless_stopped, finally, one_round, if_continues, turns, loop}
use Rattle.meaning.specs.Run.{bound_names, act, eval_parts, eval, eval_optional, branch, branch_optional, bind_name, declare_one, declare, leaving, scope, scoped, renewed, while_loop, do_loop, for_body, for_loop, Clauses, fall_through, if_default, from_default, if_selected, select_case, return_value, catch_clause}
use Rattle.words.specs.Tree.{Expression, expression, Declarator, Name, NameInit, Start, no_start, start_expression, start_var, start_let}

-- every ending is one of E, and no rounds are gained
abbrev pub Within : (Ending → Type 0) → Evaluation → Type 0
Within E f = (k : ℕ) (w : World) → E (f k w).ending × ((f k w).rounds ≤ k)

-- the endings that any action can have are among them
pub record Open (E : Ending → Type 0) : Type 0 where
  pub on_throw : (v : Value) → E (throw v)
  pub on_gone : E gone
  pub on_spent : E spent

pub within_end : (E : Ending → Type 0) (e : Ending) → E e → Within E (end e)
unfolding end
within_end E e p k w = (p, le_refl k)

pub within_after : (E F : Ending → Type 0) (f : Evaluation) (c : Ending → Evaluation) → Within F f → ((e : Ending) → F e → Within E (c e)) → Within E (f thereafter c)
unfolding ◌thereafter◌
within_after E F f c p q k w =
    let r = q (f k w).ending (p k w).0 (f k w).rounds (f k w).world in (r.0, le_trans r.1 (p k w).1)

pub within_cond : (E : Ending → Type 0) (b : Bool) (f g : Evaluation) → (b ≡ true → Within E f) → (b ≡ false → Within E g) → Within E (cond b f g)
within_cond E true f g p q = p refl
within_cond E false f g p q = q refl

-- the first's other endings are allowed, and on normal the second's
pub within_then : (E F : Ending → Type 0) (f g : Evaluation) → Within F f → ((e : Ending) → F e → is_normal e ≡ false → E e) → Within E g → Within E (f then g)
unfolding ◌then◌ if_normal
within_then E F f g p q r = within_after E F f _ p (λ e s. within_cond E (is_normal e) g (end e) (λ _. r) (λ n. within_end E e (q e s n)))

pub within_breakable : (E F : Ending → Type 0) (f : Evaluation) → Within F f → ((e : Ending) → F e → E (without_break e)) → Within E (breakable f)
unfolding breakable
within_breakable E F f p q = within_after E F f _ p (λ e r. within_end E _ (q e r))

pub within_label : (E F : Ending → Type 0) (l : ℕ) (f : Evaluation) → Within F f → ((e : Ending) → F e → E (without_break_to l e)) → Within E (with_label l f)
unfolding with_label
within_label E F l f p q = within_after E F f _ p (λ e r. within_end E _ (q e r))

within_handle : (E : Ending → Type 0) (o : Option Value) (g : Value → Evaluation) (e : Ending) → E e → ((v : Value) → Within E (g v)) → Within E (handle o g (end e))
within_handle E None g e p q = within_end E e p
within_handle E (Some v) g e p q = q v

pub within_catch : (E : Ending → Type 0) (f : Evaluation) (g : Value → Evaluation) → Within E f → ((v : Value) → Within E (g v)) → Within E (catch_by f g)
unfolding catch_by
within_catch E f g p q = within_after E E f _ p (λ e r. within_handle E (thrown e) g e r q)

pub within_unless : (E F : Ending → Type 0) (c : Ending → Evaluation) (e : Ending) → (is_stopped e ≡ true → E e) → (is_stopped e ≡ false → Within E (c e)) → Within E (unless_stopped c e)
unfolding unless_stopped
within_unless E F c e p q = within_cond E (is_stopped e) (end e) (c e) (λ r. within_end E e (p r)) q

-- a finalizer's own endings, or after its normal one those of what comes before it
pub within_finally : (E F G : Ending → Type 0) (f g : Evaluation) → Within F f → Within G g →
    ((e : Ending) → F e → is_stopped e ≡ true → E e) → ((d : Ending) → G d → is_normal d ≡ false → E d) →
    ((e d : Ending) → F e → G d → is_normal d ≡ true → E e) → Within E (finally f g)
unfolding finally if_normal
within_finally E F G f g p q stop own other =
    within_after E F f _ p (λ e r. within_unless E F _ e (stop e r) (λ _.
    within_after E G g _ q (λ d s. within_cond E (is_normal d) (end e) (end d) (λ n. within_end E e (other e d r s n)) (λ n. within_end E d (own d s n)))))

pub within_both : (E : Ending → Type 0) (f g : Evaluation) → Within E f → Within E g → Within E (finally f g)
within_both E f g p q = within_finally E E E f g p q (λ e r _. r) (λ d r _. r) (λ e d r _ _. r)

module _ (E : Ending → Type 0) (o : Open E) where
  within_round : (f : Evaluation) → Within E f → Within E (one_round f)
  unfolding one_round
  within_round f p zero w = within_end E spent o.on_spent 0 w
  within_round f p (suc k) w = let q = p k w in let r : (f k w).rounds ≤ k = q.1 in (q.0, omega arith)

  within_turns : (F : Ending → Type 0) (ls : List ℕ) (body : Evaluation) (again : Evaluation → Evaluation) → Within F body →
      ((e : Ending) → F e → loop_continues ls e ≡ false → E (without_break e)) → ((g : Evaluation) → Within E g → Within E (again g)) →
      (n : ℕ) → Within E (turns ls body again n)
  unfolding turns if_continues
  within_turns F ls body again p q r zero = within_end E spent o.on_spent
  within_turns F ls body again p q r (suc n) =
      within_round _ (within_after E F body _ p (λ e s. within_cond E (loop_continues ls e) _ _ (λ _. r _ (within_turns F ls body again p q r n)) (λ c. within_end E _ (q e s c))))

  pub within_loop : (F : Ending → Type 0) (ls : List ℕ) (body : Evaluation) (again : Evaluation → Evaluation) → Within F body →
      ((e : Ending) → F e → loop_continues ls e ≡ false → E (without_break e)) → ((g : Evaluation) → Within E g → Within E (again g)) → Within E (loop ls body again)
  unfolding loop
  within_loop F ls body again p q r k w = within_turns F ls body again p q r k k w

  within_act : {A : Type 0} (a : Outcome A) (c : A → Evaluation) → ((x : A) → Within E (c x)) → Within E (act a c)
  unfolding act
  within_act (gives x u) c p k w = p x k u
  within_act (throws v u) c p k w = within_end E (throw v) (o.on_throw v) k u
  within_act no_return c p k w = within_end E gone o.on_gone k w

  within_leave : (m : Model) (e : Ending) → E e → Within E (leaving m e)
  unfolding leaving
  within_leave m e p k w = within_end E e p k (m.leave w)

  module _ (m : Model) where
    within_parts : (x : ℕ) (xs : List ℕ) (c : Value → Evaluation) → ((v : Value) → Within E (c v)) → Within E (eval_parts m x xs c)
    unfolding eval_parts
    within_parts x [] c p k w = within_act (m.evaluate x w) c p k w
    within_parts x (y ∷ ys) c p k w = within_act (m.evaluate x w) _ (λ _. within_parts y ys c p) k w

    pub within_eval : (e : Expression) (c : Value → Evaluation) → ((v : Value) → Within E (c v)) → Within E (eval m e c)
    unfolding eval
    within_eval (expression x xs) c p = within_parts x xs c p

    pub within_eval_optional : (e : Option Expression) (f : Evaluation) → Within E f → Within E (eval_optional m e f)
    unfolding eval_optional
    within_eval_optional None f p = p
    within_eval_optional (Some e) f p = within_eval e _ (λ _. p)

    pub within_branch : (e : Expression) (f g : Evaluation) → Within E f → Within E g → Within E (branch m e f g)
    unfolding branch
    within_branch e f g p q = within_eval e _ (λ v. within_cond E (m.truthy v) f g (λ _. p) (λ _. q))

    pub within_branch_optional : (e : Option Expression) (f g : Evaluation) → Within E f → Within E g → Within E (branch_optional m e f g)
    unfolding branch_optional
    within_branch_optional None f g p q = p
    within_branch_optional (Some e) f g p q = within_branch e f g p q

    within_bind : (by : Declaration) (x : ℕ) (v : Option Value) (f : Evaluation) → Within E f → Within E (bind_name m by x v f)
    unfolding bind_name
    within_bind by x v f p k w = within_act (m.bind by x v w) _ (λ _. p) k w

    within_declare_one : (by : Declaration) (d : Declarator) (f : Evaluation) → Within E f → Within E (declare_one m by d f)
    unfolding declare_one
    within_declare_one by_var (Name x) f p = p
    within_declare_one by_let (Name x) f p = within_bind by_let x None f p
    within_declare_one by_var (NameInit x e) f p = within_eval e _ (λ v. within_bind by_var x (Some v) f p)
    within_declare_one by_let (NameInit x e) f p = within_eval e _ (λ v. within_bind by_let x (Some v) f p)

    pub within_declare : (by : Declaration) (ds : List Declarator) → E normal → Within E (declare m by ds)
    unfolding declare
    within_declare by [] n = within_end E normal n
    within_declare by (d ∷ ds) n = within_declare_one by d _ (within_declare by ds n)

    pub within_scope : (ns : List ℕ) (f : Evaluation) → Within E f → Within E (scope m ns f)
    unfolding scope
    within_scope ns f p k w = within_after E E f _ p (λ e q. within_unless E E _ e (λ _. q) (λ _. within_leave m e q)) k (m.enter ns w)

    pub within_scoped : (ns : List ℕ) (f : Evaluation) → Within E f → Within E (scoped m ns f)
    unfolding scoped
    within_scoped [] f p = p
    within_scoped (n ∷ ns) f p = within_scope (n ∷ ns) f p

    pub within_catch_clause : (x : Option ℕ) (f : Evaluation) → Within E f → (v : Value) → Within E (catch_clause m x f v)
    unfolding catch_clause
    within_catch_clause None f p v = p
    within_catch_clause (Some x) f p v = within_scope (x ∷ []) _ (within_bind by_let x (Some v) f p)

    pub within_try : (f : Evaluation) (x : Option ℕ) (g : Evaluation) → Within E f → Within E g → Within E (catch_by f (catch_clause m x g))
    within_try f x g p q = within_catch E f _ p (within_catch_clause x g q)

    pub within_return : (e : Option Expression) → ((v : Option Value) → E (return v)) → Within E (return_value m e)
    unfolding return_value
    within_return None p = within_end E _ (p None)
    within_return (Some e) p = within_eval e _ (λ v. within_end E _ (p (Some v)))

    pub within_list : (f g : Evaluation) → Within E f → Within E g → Within E (f then g)
    within_list f g p q = within_then E E f g p (λ e r _. r) q

    within_renewed : (f : Evaluation) → Within E f → Within E (renewed m f)
    unfolding renewed
    within_renewed f p k w = p k (m.renew w)

    within_for_body : (F : Ending → Type 0) (renewal : Evaluation → Evaluation) → ((g : Evaluation) → Within E g → Within E (renewal g)) → (ls : List ℕ) (t u : Option Expression) (f : Evaluation) → E normal → Within F f →
        ((e : Ending) → F e → loop_continues ls e ≡ false → E (without_break e)) → Within E (for_body m renewal ls t u f)
    unfolding for_body
    within_for_body F renewal r ls t u f n p q =
        within_branch_optional t _ _ (within_loop F ls f _ p q (λ g s. r _ (within_eval_optional u _ (within_branch_optional t g _ s (within_end E normal n))))) (within_end E normal n)

    pub within_for : (F : Ending → Type 0) (i : Start) (ls : List ℕ) (t u : Option Expression) (f : Evaluation) → E normal → Within F f →
        ((e : Ending) → F e → loop_continues ls e ≡ false → E (without_break e)) → Within E (for_loop m i ls t u f)
    unfolding for_loop
    within_for F no_start ls t u f n p q = within_for_body F _ (λ g r. r) ls t u f n p q
    within_for F (start_expression e) ls t u f n p q = within_eval e _ (λ _. within_for_body F _ (λ g r. r) ls t u f n p q)
    within_for F (start_var d ds) ls t u f n p q = within_list _ _ (within_declare by_var (d ∷ ds) n) (within_for_body F _ (λ g r. r) ls t u f n p q)
    within_for F (start_let d ds) ls t u f n p q =
        within_scope (bound_names (d ∷ ds)) _ (within_list _ _ (within_declare by_let (d ∷ ds) n) (within_for_body F (renewed m) within_renewed ls t u f n p q))

    pub within_while : (F : Ending → Type 0) (ls : List ℕ) (e : Expression) (f : Evaluation) → E normal → Within F f →
        ((d : Ending) → F d → loop_continues ls d ≡ false → E (without_break d)) → Within E (while_loop m ls e f)
    unfolding while_loop
    within_while F ls e f n p q = within_branch e _ _ (within_loop F ls f _ p q (λ g r. within_branch e g _ r (within_end E normal n))) (within_end E normal n)

    pub within_do : (F : Ending → Type 0) (ls : List ℕ) (e : Expression) (f : Evaluation) → E normal → Within F f →
        ((d : Ending) → F d → loop_continues ls d ≡ false → E (without_break d)) → Within E (do_loop m ls f e)
    unfolding do_loop
    within_do F ls e f n p q = within_loop F ls f _ p q (λ g r. within_branch e g _ r (within_end E normal n))

    -- clauses whose statements keep to E
    abbrev pub AllWithin : Clauses m → Type 0
    AllWithin [] = Unit {0}
    AllWithin (c ∷ cs) = Within E c.1 × AllWithin cs

    within_fall : (cs : Clauses m) → E normal → AllWithin cs → Within E (fall_through m cs)
    unfolding fall_through
    within_fall [] n p = within_end E normal n
    within_fall (c ∷ cs) n p = within_list _ _ p.0 (within_fall cs n p.1)

    within_if_default : (t : Option Expression) (f g : Evaluation) → Within E f → Within E g → Within E (if_default m t f g)
    unfolding if_default
    within_if_default None f g p q = p
    within_if_default (Some t) f g p q = q

    within_default : (cs : Clauses m) → E normal → AllWithin cs → Within E (from_default m cs)
    unfolding from_default
    within_default [] n p = within_end E normal n
    within_default (c ∷ cs) n p = within_if_default c.0 _ _ (within_list _ _ p.0 (within_fall cs n p.1)) (within_default cs n p.1)

    within_if_selected : (v : Value) (t : Option Expression) (f g : Evaluation) → Within E f → Within E g → Within E (if_selected m v t f g)
    unfolding if_selected
    within_if_selected v None f g p q = q
    within_if_selected v (Some t) f g p q = within_eval t _ (λ u. within_cond E (m.strictly_equal v u) f g (λ _. p) (λ _. q))

    within_select : (v : Value) (cs : Clauses m) (g : Evaluation) → E normal → AllWithin cs → Within E g → Within E (select_case m v cs g)
    unfolding select_case
    within_select v [] g n p q = q
    within_select v (c ∷ cs) g n p q = within_if_selected v c.0 _ _ (within_list _ _ p.0 (within_fall cs n p.1)) (within_select v cs g n p.1 q)

    -- what the cases do together, inside a Switch
    pub within_cases : (v : Value) (ns : List ℕ) (cs : Clauses m) → E normal → AllWithin cs → Within E (scoped m ns (select_case m v cs (from_default m cs)))
    within_cases v ns cs n p = within_scoped ns _ (within_select v cs _ n p (within_default cs n p))
