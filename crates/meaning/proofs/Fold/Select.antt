-- Selection: what it makes runs as before.
use Rattle.std.proofs.Common.{◌≡◌, ℕ, zero, suc, Bool, true, false, cond, ◌&&◌, ◌||◌, List, [], ◌∷◌, ◌++◌, Some, None, Option, sym, refl, ap, ◌∙◌, arith}
use Rattle.host.specs.Model.{Model, Lawful, Value}
use Rattle.host.specs.Sequence.{parts_of, value_of, effects_of}
use Rattle.meaning.specs.Completion.{normal, Evaluation, end, ◌then◌, breakable}
use Rattle.meaning.specs.Run.{let_names, let_names_cases, eval, scoped, fall_through, if_default, from_default, if_selected, select_case, switch, run, run_list, run_cases}
use Rattle.words.specs.Tree.{Expression, expression}
use Rattle.words.specs.Tree.{Switch}
use Rattle.words.specs.Tree.{Statements, none, Cases, no_case, case}
use Rattle.meaning.specs.Fold.Folded.{unchanged}
use Rattle.meaning.specs.Fold.IsTerminated.{is_terminated_list}
use Rattle.meaning.specs.Fold.Select.{Entry, matched, default, missing, Standing, before, through, past, join, optional_parts, next, lives, bodies, lost_names, kept_statements, as_test, lead, later, at_default, is_several, is_none, kept_tests, entry_at, entry_of, selected, select_entry, select_value, drop_unreachable_switch_cases}
use Rattle.meaning.proofs.Sequencing.{then_normal, normal_then, eval_then, abrupt_then, run_join, run_stub_list, lets_join, lets_stub_list}
use Rattle.meaning.proofs.Evaluations.{all_then, eval_all, eval_value, all_idle, then_append, value_append, append_nil}
use Rattle.meaning.proofs.Terminated.{abrupt_list}
use Rattle.meaning.proofs.Lists.{cond_same, nil_left, nil_right, nil_both}

-- no Let comes in
clean_bodies : (st : Standing) (cs : Cases) → let_names_cases cs ≡ [] → let_names (bodies st cs) ≡ []
clean_bodies st no_case q = refl
clean_bodies st (case t ss cs) q = go (lives st) (clean_bodies (next st (is_terminated_list ss)) cs (nil_right (let_names ss) _ q))
  where
    go : (b : Bool) → let_names (bodies (next st (is_terminated_list ss)) cs) ≡ [] → let_names (join (cond b ss none) (bodies (next st (is_terminated_list ss)) cs)) ≡ []
    go true r = lets_join ss _ ∙ nil_both (let_names ss) _ (nil_left (let_names ss) _ q) r
    go false r = r

module _ (m : Model) where
  clean_kept : (st : Standing) (cs : Cases) → let_names_cases cs ≡ [] → let_names (kept_statements st cs) ≡ []
  clean_kept st cs q = lets_join (bodies st cs) _ ∙ nil_both _ _ (clean_bodies st cs q) (lets_stub_list m (lost_names st cs))

  clean_lead : (ts : List ℕ) (ss : Statements) → let_names ss ≡ [] → let_names (lead ts ss) ≡ []
  clean_lead [] ss q = q
  clean_lead (t ∷ ts) ss q = q

  clean_selected : (e : Entry) (cs : Cases) → let_names_cases cs ≡ [] → let_names_cases (selected m e cs) ≡ []
  clean_selected (matched k) cs q = nil_both (let_names (kept_statements (before k) cs)) [] (clean_kept (before k) cs q) refl
  clean_selected (default k) cs q = nil_both (let_names (lead (kept_tests m false true (before k) cs) (kept_statements (before k) cs))) [] (clean_lead (kept_tests m false true (before k) cs) _ (clean_kept (before k) cs q)) refl
  clean_selected missing cs q = nil_both (let_names (kept_statements past cs)) [] (clean_kept past cs q) refl

  -- the statements kept
  bodies_past : (cs : Cases) → bodies past cs ≡ none
  bodies_past no_case = refl
  bodies_past (case t ss cs) = bodies_past cs

  live_after : (ss : Statements) (cs : Cases) → run_list m (bodies through cs) ≡ fall_through m (run_cases m cs) →
      run_list m (join ss (bodies (cond (is_terminated_list ss) past through) cs)) ≡ run_list m ss then fall_through m (run_cases m cs)
  live_after ss cs p = run_join m ss _ ∙ go (is_terminated_list ss) refl
    where
      go : (b : Bool) → is_terminated_list ss ≡ b → run_list m ss then run_list m (bodies (cond b past through) cs) ≡ run_list m ss then fall_through m (run_cases m cs)
      go true q = abrupt_then _ _ (abrupt_list m ss q) ∙ sym (abrupt_then _ _ (abrupt_list m ss q))
      go false q = ap (λ x. run_list m ss then x) p

  live : (cs : Cases) → run_list m (bodies through cs) ≡ fall_through m (run_cases m cs)
  unfolding run fall_through
  live no_case = refl
  live (case t ss cs) = live_after ss cs (live cs)

  kept_run : (st : Standing) (cs : Cases) → run_list m (kept_statements st cs) ≡ run_list m (bodies st cs)
  kept_run st cs = run_join m (bodies st cs) _ ∙ ap (λ x. run_list m (bodies st cs) then x) (run_stub_list m (lost_names st cs)) ∙ then_normal _

  -- after the entry only tests that are evaluated before the statements stay
  late_tests : (cs : Cases) (b : Bool) → kept_tests m false true (cond b past through) cs ≡ kept_tests m false true past cs
  late_tests no_case b = refl
  late_tests (case t ss cs) true = refl
  late_tests (case t ss cs) false = ap (λ x. cond (effects_of m (optional_parts t)) (optional_parts t) [] ++ x) (late_tests cs (is_terminated_list ss))

  no_tests : (cs : Cases) (b : Bool) → kept_tests m false false (cond b past through) cs ≡ []
  no_tests no_case b = refl
  no_tests (case t ss cs) true = no_tests cs true
  no_tests (case t ss cs) false = no_tests cs (is_terminated_list ss)

  -- a test whose value is known and not equal, and cases of such tests alone
  abbrev Miss : Value → Expression → Type 0
  Miss v t = (u : Value) × (value_of m (parts_of t) ≡ Some u) × (m.strictly_equal v u ≡ false)

  abbrev Misses : Value → Cases → Type 0
  Misses v no_case = Unit {0}
  Misses v (case None ss cs) = Misses v cs
  Misses v (case (Some t) ss cs) = Miss v t × Misses v cs

  -- where the entry is, in the words of the run
  abbrev AtMatch : Value → ℕ → Cases → Type 0
  AtMatch v k no_case = ⊥
  AtMatch v zero (case None ss cs) = ⊥
  AtMatch v zero (case (Some t) ss cs) = (u : Value) × (value_of m (parts_of t) ≡ Some u) × (m.strictly_equal v u ≡ true)
  AtMatch v (suc k) (case None ss cs) = AtMatch v k cs
  AtMatch v (suc k) (case (Some t) ss cs) = Miss v t × AtMatch v k cs

  abbrev AtDefault : Value → ℕ → Cases → Type 0
  AtDefault v k no_case = ⊥
  AtDefault v zero (case None ss cs) = Misses v cs
  AtDefault v zero (case (Some t) ss cs) = ⊥
  AtDefault v (suc k) (case None ss cs) = ⊥
  AtDefault v (suc k) (case (Some t) ss cs) = Miss v t × AtDefault v k cs

  abbrev Missing : Value → Cases → Type 0
  Missing v no_case = Unit {0}
  Missing v (case None ss cs) = ⊥
  Missing v (case (Some t) ss cs) = Miss v t × Missing v cs

  abbrev At : Value → Option Entry → Cases → Type 0
  At v None cs = Unit {0}
  At v (Some (matched k)) cs = AtMatch v k cs
  At v (Some (default k)) cs = AtDefault v k cs
  At v (Some missing) cs = Missing v cs

  default_misses : (v : Value) (k : ℕ) (cs : Cases) → AtDefault v k cs → Misses v cs
  default_misses v k no_case q = absurd q
  default_misses v zero (case None ss cs) q = q
  default_misses v zero (case (Some t) ss cs) q = absurd q
  default_misses v (suc k) (case None ss cs) q = absurd q
  default_misses v (suc k) (case (Some t) ss cs) q = (q.0, default_misses v k cs q.1)

  missing_misses : (v : Value) (cs : Cases) → Missing v cs → Misses v cs
  missing_misses v no_case q = tt
  missing_misses v (case None ss cs) q = absurd q
  missing_misses v (case (Some t) ss cs) q = (q.0, missing_misses v cs q.1)

  past_default : (v : Value) (ss : Statements) (cs : Cases) (o : Option Entry) → At v o cs → At v (at_default o) (case None ss cs)
  past_default v ss cs None q = tt
  past_default v ss cs (Some (matched k)) q = q
  past_default v ss cs (Some (default k)) q = default_misses v k cs q
  past_default v ss cs (Some missing) q = missing_misses v cs q

  past_miss : (v : Value) (t : Expression) (ss : Statements) (cs : Cases) (o : Option Entry) → Miss v t → At v o cs → At v (later o) (case (Some t) ss cs)
  past_miss v t ss cs None p q = tt
  past_miss v t ss cs (Some (matched k)) p q = (p, q)
  past_miss v t ss cs (Some (default k)) p q = (p, q)
  past_miss v t ss cs (Some missing) p q = (p, q)

  past_test : (v : Value) (t : Expression) (ss : Statements) (cs : Cases) (o : Option Entry) → At v o cs → (x : Option Value) → value_of m (parts_of t) ≡ x → At v (entry_at m v x o) (case (Some t) ss cs)
  past_test v t ss cs o q None p = tt
  past_test v t ss cs o q (Some u) p = go (m.strictly_equal v u) refl
    where
      go : (b : Bool) → m.strictly_equal v u ≡ b → At v (cond b (Some (matched zero)) (later o)) (case (Some t) ss cs)
      go true r = (u, p, r)
      go false r = past_miss v t ss cs o (u, p, r) q

  entered : (v : Value) (cs : Cases) → At v (entry_of m v cs) cs
  entered v no_case = tt
  entered v (case None ss cs) = past_default v ss cs (entry_of m v cs) (entered v cs)
  entered v (case (Some t) ss cs) = past_test v t ss cs (entry_of m v cs) (entered v cs) (value_of m (parts_of t)) refl

  -- the statements from the Default on, and none where there is no Default
  default_live : (v : Value) (k : ℕ) (cs : Cases) → AtDefault v k cs → from_default m (run_cases m cs) ≡ run_list m (bodies (before k) cs)
  unfolding from_default if_default run
  default_live v k no_case q = absurd q
  default_live v zero (case None ss cs) q = sym (live_after ss cs (live cs))
  default_live v zero (case (Some t) ss cs) q = absurd q
  default_live v (suc k) (case None ss cs) q = absurd q
  default_live v (suc k) (case (Some t) ss cs) q = default_live v k cs q.1

  missing_live : (v : Value) (cs : Cases) → Missing v cs → from_default m (run_cases m cs) ≡ end normal
  unfolding from_default if_default run
  missing_live v no_case q = refl
  missing_live v (case None ss cs) q = absurd q
  missing_live v (case (Some t) ss cs) q = missing_live v cs q.1

  -- the tests kept for a match have the value of the one that is equal
  match_value : (v : Value) (k : ℕ) (cs : Cases) → AtMatch v k cs → (u : Value) × (value_of m (kept_tests m false false (before k) cs) ≡ Some u) × (m.strictly_equal v u ≡ true)
  match_value v k no_case q = absurd q
  match_value v zero (case None ss cs) q = absurd q
  match_value v zero (case (Some t) ss cs) q =
      (q.0, ap (λ x. value_of m (parts_of t ++ x)) (no_tests cs (is_terminated_list ss)) ∙ ap (value_of m) (append_nil (parts_of t)) ∙ q.1, q.2)
  match_value v (suc k) (case None ss cs) q = let r = match_value v k cs q in (r.0, value_append m [] (kept_tests m false false (before k) cs) r.0 r.1, r.2)
  match_value v (suc k) (case (Some t) ss cs) q = let r = match_value v k cs q.1 in (r.0, value_append m (cond (effects_of m (parts_of t)) (parts_of t) []) (kept_tests m false false (before k) cs) r.0 r.1, r.2)

module _ (m : Model) (law : Lawful m) where
  test_known : (v u : Value) (t : Expression) (b : Bool) → value_of m (parts_of t) ≡ Some u → m.strictly_equal v u ≡ b → (f g : Evaluation) →
      if_selected m v (Some t) f g ≡ all_then m (parts_of t) (cond b f g)
  unfolding if_selected
  test_known v u t b q s f g = eval_value m law t u q (λ x. cond (m.strictly_equal v x) f g) ∙ ap (λ x. all_then m (parts_of t) (cond x f g)) s

  kept : (always : Bool) (xs : List ℕ) (f : Evaluation) → all_then m (cond (always || effects_of m xs) xs []) f ≡ all_then m xs f
  kept true xs f = refl
  kept false xs f = go (effects_of m xs) refl
    where
      go : (b : Bool) → effects_of m xs ≡ b → all_then m (cond b xs []) f ≡ all_then m xs f
      go true q = refl
      go false q = sym (all_idle m law xs q f)

  kept_then : (xs ys : List ℕ) (f : Evaluation) → all_then m (cond (effects_of m xs) xs [] ++ ys) f ≡ all_then m xs (all_then m ys f)
  kept_then xs ys f = then_append m (cond (effects_of m xs) xs []) ys f ∙ kept false xs (all_then m ys f)

  miss_step : (v : Value) (t : Expression) (ys : List ℕ) (f g h : Evaluation) → Miss m v t → g ≡ all_then m ys h → if_selected m v (Some t) f g ≡ all_then m (cond (effects_of m (parts_of t)) (parts_of t) [] ++ ys) h
  miss_step v t ys f g h p q = test_known v p.0 t false p.1 p.2 f g ∙ ap (all_then m (parts_of t)) q ∙ sym (kept_then (parts_of t) ys h)

  -- no test is equal: they are evaluated for nothing
  missed : (v : Value) (cs : Cases) (g : Evaluation) → Misses m v cs → select_case m v (run_cases m cs) g ≡ all_then m (kept_tests m false true past cs) g
  unfolding select_case run if_selected
  missed v no_case g q = refl
  missed v (case None ss cs) g q = missed v cs g q ∙ ap (λ x. all_then m (x ++ kept_tests m false true past cs) g) (sym (cond_same (effects_of m []) []))
  missed v (case (Some t) ss cs) g q = miss_step v t _ _ _ g q.0 (missed v cs g q.1)

  default_tests : (v : Value) (k : ℕ) (cs : Cases) (g : Evaluation) → AtDefault m v k cs → select_case m v (run_cases m cs) g ≡ all_then m (kept_tests m false true (before k) cs) g
  unfolding select_case run if_selected
  default_tests v k no_case g q = absurd q
  default_tests v zero (case None ss cs) g q = missed v cs g q ∙ ap (λ x. all_then m x g) (sym (late_tests m cs (is_terminated_list ss)))
  default_tests v zero (case (Some t) ss cs) g q = absurd q
  default_tests v (suc k) (case None ss cs) g q = absurd q
  default_tests v (suc k) (case (Some t) ss cs) g q = miss_step v t _ _ _ g q.0 (default_tests v k cs g q.1)

  -- a test is equal: those before it are evaluated for nothing, then it, and then the statements from it on
  match_tests : (v : Value) (k : ℕ) (cs : Cases) (g : Evaluation) → AtMatch m v k cs →
      select_case m v (run_cases m cs) g ≡ all_then m (kept_tests m false false (before k) cs) (run_list m (bodies (before k) cs))
  unfolding select_case run if_selected
  match_tests v k no_case g q = absurd q
  match_tests v zero (case None ss cs) g q = absurd q
  match_tests v zero (case (Some t) ss cs) g q =
      test_known v q.0 t true q.1 q.2 _ _
      ∙ (λ i. all_then m (parts_of t) (sym (live_after m ss cs (live m cs)) i))
      ∙ ap (λ x. all_then m x (run_list m (bodies (before zero) (case (Some t) ss cs)))) (sym (ap (λ x. parts_of t ++ x) (no_tests m cs (is_terminated_list ss)) ∙ append_nil (parts_of t)))
  match_tests v (suc k) (case None ss cs) g q = match_tests v k cs g q ∙ ap (λ x. all_then m (x ++ kept_tests m false false (before k) cs) (run_list m (bodies (before k) cs))) (sym (cond_same (effects_of m []) []))
  match_tests v (suc k) (case (Some t) ss cs) g q = miss_step v t _ _ _ _ q.0 (match_tests v k cs g q.1)

  -- which case runs, for a value of the discriminant
  choice : Value → Cases → Evaluation
  choice v cs = select_case m v (run_cases m cs) (from_default m (run_cases m cs))

  matched_choice : (v : Value) (ts : List ℕ) (ss : Statements) → (u : Value) × (value_of m ts ≡ Some u) × (m.strictly_equal v u ≡ true) → choice v (case (as_test ts) ss no_case) ≡ all_then m ts (run_list m ss)
  unfolding choice select_case run fall_through
  matched_choice v [] ss q = absurd (let e : None ≡ Some q.0 = q.1 in let y : ◌≡◌ {A = ℕ} 0 1 = cc in omega arith)
  matched_choice v (t ∷ ts) ss q = test_known v q.0 (expression t ts) true q.1 q.2 _ _ ∙ ap (all_then m (t ∷ ts)) (then_normal _)

  lead_run : (ts : List ℕ) (ss : Statements) → run_list m (lead ts ss) ≡ all_then m ts (run_list m ss)
  unfolding run
  lead_run [] ss = refl
  lead_run (t ∷ ts) ss = eval_then m (expression t ts) (λ _. end normal) (run_list m ss) ∙ (λ i. eval m (expression t ts) (λ _. normal_then (run_list m ss) i)) ∙ eval_all m (expression t ts) (run_list m ss)

  default_choice : (v : Value) (ts : List ℕ) (ss : Statements) → choice v (case None (lead ts ss) no_case) ≡ all_then m ts (run_list m ss)
  unfolding choice select_case if_selected from_default if_default run fall_through
  default_choice v ts ss = then_normal _ ∙ lead_run ts ss

  missing_choice : (v : Value) (ts : List ℕ) (ss : Statements) → run_list m ss ≡ end normal → choice v (case (as_test ts) ss no_case) ≡ all_then m ts (end normal)
  unfolding choice select_case if_selected from_default if_default run fall_through
  missing_choice v [] ss q = then_normal _ ∙ q
  missing_choice v (t ∷ ts) ss q =
      (λ i. eval m (expression t ts) (λ u. cond (m.strictly_equal v u) ((then_normal _ ∙ q) i) (end normal)))
      ∙ (λ i. eval m (expression t ts) (λ u. cond_same (m.strictly_equal v u) (end normal) i)) ∙ eval_all m (expression t ts) (end normal)

  first_test : (cs : Cases) (f : Evaluation) → all_then m (kept_tests m true true past cs) f ≡ all_then m (kept_tests m false true past cs) f
  first_test no_case f = refl
  first_test (case t ss cs) f = then_append m (optional_parts t) _ f ∙ sym (kept_then (optional_parts t) _ f)

  nothing : run_list m none ≡ end normal
  unfolding run
  nothing = refl

  selected_choice : (v : Value) (e : Entry) (cs : Cases) → At m v (Some e) cs → choice v (selected m e cs) ≡ choice v cs
  unfolding choice
  selected_choice v (matched k) cs q =
      matched_choice v (kept_tests m false false (before k) cs) (kept_statements (before k) cs) (match_value m v k cs q)
      ∙ ap (all_then m (kept_tests m false false (before k) cs)) (kept_run m (before k) cs) ∙ sym (match_tests v k cs _ q)
  selected_choice v (default k) cs q =
      default_choice v (kept_tests m false true (before k) cs) (kept_statements (before k) cs)
      ∙ ap (all_then m (kept_tests m false true (before k) cs)) (kept_run m (before k) cs ∙ sym (default_live m v k cs q)) ∙ sym (default_tests v k cs _ q)
  selected_choice v missing cs q =
      missing_choice v (kept_tests m true true past cs) (kept_statements past cs) (kept_run m past cs ∙ ap (run_list m) (bodies_past m cs) ∙ nothing)
      ∙ first_test cs (end normal) ∙ ap (all_then m (kept_tests m false true past cs)) (sym (missing_live m v cs q)) ∙ sym (missed v cs _ (missing_misses m v cs q))

  entry_choice : (v : Value) (o : Option Entry) (cs : Cases) → At m v o cs → choice v (select_entry m o cs).result ≡ choice v cs
  entry_choice v None cs q = refl
  entry_choice v (Some e) cs q = selected_choice v e cs q

  clean_entry : (o : Option Entry) (cs : Cases) → let_names_cases cs ≡ [] → let_names_cases (select_entry m o cs).result ≡ []
  clean_entry None cs q = q
  clean_entry (Some e) cs q = clean_selected m e cs q

  value_run : (d : Expression) (x : Option Value) → value_of m (parts_of d) ≡ x → (cs : Cases) (ls : List ℕ) → let_names_cases cs ≡ [] → run m (Switch d (select_value m x cs).result) ls ≡ run m (Switch d cs) ls
  unfolding run switch choice
  value_run d None q cs ls n = refl
  value_run d (Some v) q cs ls n =
      eval_value m law d v q _
      ∙ (λ i. all_then m (parts_of d) (breakable (scoped m ((clean_entry (entry_of m v cs) cs n ∙ sym n) i) (entry_choice v (entry_of m v cs) cs (entered m v cs) i))))
      ∙ sym (eval_value m law d v q _)

  none_nil : (ns : List ℕ) → is_none ns ≡ true → ns ≡ []
  none_nil [] q = refl
  none_nil (n ∷ ns) q = cc

  pub select_run : (d : Expression) (cs : Cases) (ls : List ℕ) → run m (Switch d (drop_unreachable_switch_cases m d cs).result) ls ≡ run m (Switch d cs) ls
  select_run d cs ls = go (is_several cs) (is_none (let_names_cases cs)) refl
    where
      go : (a b : Bool) → is_none (let_names_cases cs) ≡ b → run m (Switch d (cond (a && b) (select_value m (value_of m (parts_of d)) cs) (unchanged cs)).result) ls ≡ run m (Switch d cs) ls
      go false b q = refl
      go true false q = refl
      go true true q = value_run d (value_of m (parts_of d)) refl cs ls (none_nil (let_names_cases cs) q)
