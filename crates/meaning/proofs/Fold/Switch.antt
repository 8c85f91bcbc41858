-- Dropping the empty cases of a Switch: what it makes runs as before.
use Rattle.std.proofs.Common.{◌≡◌, ℕ, Bool, true, false, cond, ◌||◌, List, [], ◌∷◌, ◌++◌, Some, None, Option, sym, refl, ap, ◌∙◌}
use Rattle.host.specs.Model.{Model, Lawful, Value}
use Rattle.host.specs.Sequence.{parts_of, effects_of}
use Rattle.meaning.specs.Completion.{normal, Evaluation, end, ◌then◌, breakable}
use Rattle.meaning.specs.Run.{let_names, let_names_cases, eval, fall_through, if_default, from_default, if_selected, select_case, run, run_list, run_cases}
use Rattle.words.specs.Tree.{Expression, expression}
use Rattle.words.specs.Tree.{Switch}
use Rattle.words.specs.Tree.{Statements, Cases, no_case, case}
use Rattle.meaning.specs.Fold.Select.{drop_unreachable_switch_cases}
use Rattle.meaning.specs.Fold.Switch.{has_default, cases_from_default, cut_last, cut_before_last, is_literal, is_removable, without_end, without_before_last, unless_default_left, without_empty_by, without_empty, finish_switch, try_fold_switch, fold_switch}
use Rattle.meaning.proofs.Evaluations.{eval_idle}
use Rattle.meaning.proofs.Sequencing.{normal_then}
use Rattle.meaning.proofs.Lists.{cond_same, nil_both}
use Rattle.meaning.proofs.Fold.Select.{select_run}
use Rattle.meaning.proofs.Fold.SwitchBreak.{then_by, breakable_both, not_last, default_from, switch_by, blank_list_run, blank_list_idle, blank_list_lets, removable_blank, removable_literal, selected_by, finish_same}

module _ (m : Model) (law : Lawful m) where
  literal_idle : (t : Expression) → is_literal m (Some t) ≡ true → effects_of m (parts_of t) ≡ false
  literal_idle (expression x []) q = ap (λ b. b || false) (law.literal x q)
  literal_idle (expression x (y ∷ ys)) q = cc

  selected_idle : (v : Value) (t : Option Expression) → is_literal m t ≡ true → (f : Evaluation) → if_selected m v t f f ≡ f
  unfolding if_selected
  selected_idle v None q f = refl
  selected_idle v (Some t) q f = (λ i. eval m t (λ u. cond_same (m.strictly_equal v u) f i)) ∙ eval_idle m law t (literal_idle t q) f

  selected_none : (v : Value) (t : Option Expression) → is_literal m t ≡ true → (f g : Evaluation) → breakable f ≡ breakable (end normal) → breakable g ≡ breakable (end normal) →
      breakable (if_selected m v t f g) ≡ breakable (end normal)
  selected_none v t q f g p r = selected_by m v t f g (end normal) (end normal) p r ∙ ap breakable (selected_idle v t q (end normal))

  -- empty cases at the end
  cut_fall_through : (t : Option Expression) (ss : Statements) (cs : Cases) (r : Cases) →
      breakable (fall_through m (run_cases m cs)) ≡ breakable (fall_through m (run_cases m r)) →
      (b : Bool) → is_removable m true t ss ≡ b → breakable (fall_through m (run_cases m (case t ss cs))) ≡ breakable (fall_through m (run_cases m (cut_last b t ss r)))
  unfolding cut_last fall_through run
  cut_fall_through t ss cs no_case p true q = breakable_both _ _ (blank_list_run m ss (removable_blank m true t ss q)) p
  cut_fall_through t ss cs (case t' ss' r) p true q = then_by _ _ _ p
  cut_fall_through t ss cs r p false q = then_by _ _ _ p

  end_fall_through : (cs : Cases) → breakable (fall_through m (run_cases m cs)) ≡ breakable (fall_through m (run_cases m (without_end m cs)))
  unfolding without_end
  end_fall_through no_case = refl
  end_fall_through (case t ss cs) = cut_fall_through t ss cs (without_end m cs) (end_fall_through cs) (is_removable m true t ss) refl

  cut_select : (v : Value) (t : Option Expression) (ss : Statements) (cs : Cases) (g : Evaluation) (r : Cases) →
      breakable (fall_through m (run_cases m cs)) ≡ breakable (fall_through m (run_cases m r)) →
      breakable (select_case m v (run_cases m cs) g) ≡ breakable (select_case m v (run_cases m r) (end normal)) →
      (b : Bool) → is_removable m true t ss ≡ b →
      breakable (select_case m v (run_cases m (case t ss cs)) g) ≡ breakable (select_case m v (run_cases m (cut_last b t ss r)) (end normal))
  unfolding cut_last fall_through run select_case
  cut_select v t ss cs g no_case p s true q =
      selected_none v t (removable_literal m true t ss q) _ _ (breakable_both _ _ (blank_list_run m ss (removable_blank m true t ss q)) p) s
  cut_select v t ss cs g (case t' ss' r) p s true q = selected_by m v t _ _ _ _ (then_by _ _ _ p) s
  cut_select v t ss cs g r p s false q = selected_by m v t _ _ _ _ (then_by _ _ _ p) s

  end_select : (v : Value) (cs : Cases) (g : Evaluation) → breakable g ≡ breakable (end normal) →
      breakable (select_case m v (run_cases m cs) g) ≡ breakable (select_case m v (run_cases m (without_end m cs)) (end normal))
  unfolding without_end select_case run
  end_select v no_case g p = p
  end_select v (case t ss cs) g p =
      cut_select v t ss cs g (without_end m cs) (end_fall_through cs) (end_select v cs g p) (is_removable m true t ss) refl

  cut_default : (t : Option Expression) (ss : Statements) (cs : Cases) (r : Cases) →
      breakable (fall_through m (run_cases m cs)) ≡ breakable (fall_through m (run_cases m r)) →
      (has_default r ≡ false → breakable (from_default m (run_cases m cs)) ≡ breakable (end normal)) →
      (b : Bool) → is_removable m true t ss ≡ b → has_default (cut_last b t ss r) ≡ false →
      breakable (from_default m (run_cases m (case t ss cs))) ≡ breakable (end normal)
  unfolding cut_last fall_through run from_default if_default has_default
  cut_default None ss cs no_case p s true q n = breakable_both _ _ (blank_list_run m ss (removable_blank m true None ss q)) p
  cut_default None ss cs (case t' ss' r) p s true q n = cc
  cut_default None ss cs r p s false q n = cc
  cut_default (Some t) ss cs no_case p s true q n = s refl
  cut_default (Some t) ss cs (case t' ss' r) p s true q n = s n
  cut_default (Some t) ss cs r p s false q n = s n

  end_default : (cs : Cases) → has_default (without_end m cs) ≡ false → breakable (from_default m (run_cases m cs)) ≡ breakable (end normal)
  unfolding without_end from_default run
  end_default no_case n = refl
  end_default (case t ss cs) n =
      cut_default t ss cs (without_end m cs) (end_fall_through cs) (end_default cs) (is_removable m true t ss) refl n

  no_default : (cs : Cases) → has_default cs ≡ false → from_default m (run_cases m cs) ≡ end normal
  unfolding from_default if_default run has_default
  no_default no_case n = refl
  no_default (case None ss cs) n = cc
  no_default (case (Some t) ss cs) n = no_default cs n

  cut_lets : (t : Option Expression) (ss : Statements) (cs r : Cases) → let_names_cases r ≡ let_names_cases cs → (b : Bool) → is_removable m true t ss ≡ b →
      let_names_cases (cut_last b t ss r) ≡ let_names_cases (case t ss cs)
  unfolding cut_last
  cut_lets t ss cs no_case p true q = sym (nil_both (let_names ss) _ (blank_list_lets m true ss (removable_blank m true t ss q)) (sym p))
  cut_lets t ss cs (case t' ss' r) p true q = ap (λ x. let_names ss ++ x) p
  cut_lets t ss cs r p false q = ap (λ x. let_names ss ++ x) p

  end_lets : (cs : Cases) → let_names_cases (without_end m cs) ≡ let_names_cases cs
  unfolding without_end
  end_lets no_case = refl
  end_lets (case t ss cs) = cut_lets t ss cs (without_end m cs) (end_lets cs) (is_removable m true t ss) refl

  unless_same : (d : Expression) (cs : Cases) → run m (Switch d (unless_default_left m cs (without_end m cs))) [] ≡ run m (Switch d cs) []
  unfolding run
  unless_same d cs = go (has_default (without_end m cs)) refl
    where
      go : (b : Bool) → has_default (without_end m cs) ≡ b → run m (Switch d (cond b cs (without_end m cs))) [] ≡ run m (Switch d cs) []
      go true n = refl
      go false n = switch_by m d _ _ _ _ (end_lets cs) (λ v.
          ap (λ x. breakable (select_case m v (run_cases m (without_end m cs)) x)) (no_default (without_end m cs) n)
          ∙ sym (end_select v cs _ (end_default cs n)))

  -- empty cases before a no-case Default
  one_fall_through : (t : Option Expression) (ss : Statements) (cs : Cases) (r : Cases) →
      fall_through m (run_cases m cs) ≡ fall_through m (run_cases m r) → (b : Bool) → is_removable m false t ss ≡ b →
      fall_through m (run_cases m (case t ss cs)) ≡ fall_through m (run_cases m (cut_before_last b t ss r))
  unfolding cut_before_last fall_through run
  one_fall_through t ss cs no_case p b q = ap (λ x. run_list m ss then x) p
  one_fall_through t ss cs (case t' ss' no_case) p true q =
      ap (λ x. run_list m ss then x) p
      ∙ ap (λ x. x then fall_through m (run_cases m (case t' ss' no_case))) (blank_list_idle m ss (removable_blank m false t ss q)) ∙ normal_then _
  one_fall_through t ss cs (case t' ss' no_case) p false q = ap (λ x. run_list m ss then x) p
  one_fall_through t ss cs (case t' ss' (case t'' ss'' r)) p b q = ap (λ x. run_list m ss then x) p

  before_fall_through : (cs : Cases) → fall_through m (run_cases m cs) ≡ fall_through m (run_cases m (without_before_last m cs))
  unfolding without_before_last
  before_fall_through no_case = refl
  before_fall_through (case t ss cs) = one_fall_through t ss cs (without_before_last m cs) (before_fall_through cs) (is_removable m false t ss) refl

  one_default : (t : Expression) (ss : Statements) (r : Cases) (b : Bool) (c : Cases) → cases_from_default r ≡ c → (no_case ≡ c → ⊥) → cases_from_default (cut_before_last b (Some t) ss r) ≡ c
  unfolding cut_before_last cases_from_default
  one_default t ss no_case b c p n = absurd (n p)
  one_default t ss (case t' ss' no_case) true c p n = p
  one_default t ss (case t' ss' no_case) false c p n = p
  one_default t ss (case t' ss' (case t'' ss'' r)) b c p n = p

  before_default : (cs : Cases) (t₀ : Option Expression) (ss₀ : Statements) → cases_from_default cs ≡ case t₀ ss₀ no_case → cases_from_default (without_before_last m cs) ≡ case t₀ ss₀ no_case
  unfolding without_before_last cases_from_default cut_before_last
  before_default no_case t₀ ss₀ q = cc
  before_default (case None ss no_case) t₀ ss₀ q = q
  before_default (case None ss (case t' ss' cs)) t₀ ss₀ q = cc
  before_default (case (Some t) ss cs) t₀ ss₀ q = one_default t ss (without_before_last m cs) (is_removable m false (Some t) ss) _ (before_default cs t₀ ss₀ q) (not_last t₀ ss₀)

  one_select : (v : Value) (t : Option Expression) (ss : Statements) (cs : Cases) (t₀ : Option Expression) (ss₀ : Statements) (r : Cases) → cases_from_default r ≡ case t₀ ss₀ no_case →
      fall_through m (run_cases m cs) ≡ fall_through m (run_cases m r) →
      select_case m v (run_cases m cs) (fall_through m (run_cases m (case t₀ ss₀ no_case))) ≡ select_case m v (run_cases m r) (fall_through m (run_cases m (case t₀ ss₀ no_case))) →
      (b : Bool) → is_removable m false t ss ≡ b →
      select_case m v (run_cases m (case t ss cs)) (fall_through m (run_cases m (case t₀ ss₀ no_case)))
      ≡ select_case m v (run_cases m (cut_before_last b t ss r)) (fall_through m (run_cases m (case t₀ ss₀ no_case)))
  unfolding cut_before_last fall_through run select_case cases_from_default if_selected
  one_select v t ss cs t₀ ss₀ no_case n p s b q = cc
  one_select v t ss cs t₀ ss₀ (case (Some t') ss' no_case) n p s true q = cc
  one_select v t ss cs t₀ ss₀ (case None ss' no_case) n p s true q =
      let e : ss' ≡ ss₀ = cc in
      (λ i. if_selected m v t
      ((ap (λ x. run_list m ss then x) p
      ∙ ap (λ x. x then fall_through m (run_cases m (case None ss' no_case))) (blank_list_idle m ss (removable_blank m false t ss q))
      ∙ normal_then _ ∙ ap (λ x. run_list m x then end normal) e) i)
      (s i))
      ∙ selected_idle v t (removable_literal m false t ss q) _
  one_select v t ss cs t₀ ss₀ (case t' ss' no_case) n p s false q = λ i. if_selected m v t (run_list m ss then p i) (s i)
  one_select v t ss cs t₀ ss₀ (case t' ss' (case t'' ss'' r)) n p s b q = λ i. if_selected m v t (run_list m ss then p i) (s i)

  before_select : (v : Value) (cs : Cases) (t₀ : Option Expression) (ss₀ : Statements) → cases_from_default cs ≡ case t₀ ss₀ no_case →
      select_case m v (run_cases m cs) (fall_through m (run_cases m (case t₀ ss₀ no_case)))
      ≡ select_case m v (run_cases m (without_before_last m cs)) (fall_through m (run_cases m (case t₀ ss₀ no_case)))
  unfolding without_before_last cut_before_last cases_from_default
  before_select v no_case t₀ ss₀ n = refl
  before_select v (case None ss no_case) t₀ ss₀ n = refl
  before_select v (case None ss (case t' ss' cs)) t₀ ss₀ n = cc
  before_select v (case (Some t) ss cs) t₀ ss₀ n =
      one_select v (Some t) ss cs t₀ ss₀ (without_before_last m cs) (before_default cs t₀ ss₀ n) (before_fall_through cs) (before_select v cs t₀ ss₀ n)
      (is_removable m false (Some t) ss) refl

  one_lets : (t : Option Expression) (ss : Statements) (cs r : Cases) → let_names_cases r ≡ let_names_cases cs → (b : Bool) → is_removable m false t ss ≡ b →
      let_names_cases (cut_before_last b t ss r) ≡ let_names_cases (case t ss cs)
  unfolding cut_before_last
  one_lets t ss cs no_case p b q = ap (λ x. let_names ss ++ x) p
  one_lets t ss cs (case t' ss' no_case) p true q =
      p ∙ sym (ap (λ x. x ++ let_names_cases cs) (blank_list_lets m false ss (removable_blank m false t ss q)))
  one_lets t ss cs (case t' ss' no_case) p false q = ap (λ x. let_names ss ++ x) p
  one_lets t ss cs (case t' ss' (case t'' ss'' r)) p b q = ap (λ x. let_names ss ++ x) p

  before_lets : (cs : Cases) → let_names_cases (without_before_last m cs) ≡ let_names_cases cs
  unfolding without_before_last
  before_lets no_case = refl
  before_lets (case t ss cs) = one_lets t ss cs (without_before_last m cs) (before_lets cs) (is_removable m false t ss) refl

  before_same : (d : Expression) (cs : Cases) (t₀ : Option Expression) (ss₀ : Statements) → cases_from_default cs ≡ case t₀ ss₀ no_case →
      run m (Switch d (without_before_last m cs)) [] ≡ run m (Switch d cs) []
  unfolding run
  before_same d cs t₀ ss₀ n = switch_by m d _ _ _ _ (before_lets cs) (λ v. ap breakable (
      ap (select_case m v (run_cases m (without_before_last m cs))) (default_from m (without_before_last m cs) ∙ ap (λ x. fall_through m (run_cases m x)) (before_default cs t₀ ss₀ n))
      ∙ sym (before_select v cs t₀ ss₀ n)
      ∙ ap (select_case m v (run_cases m cs)) (sym (default_from m cs ∙ ap (λ x. fall_through m (run_cases m x)) n))))

  without_empty_same : (d : Expression) (cs : Cases) (c : Cases) → cases_from_default cs ≡ c → run m (Switch d (without_empty_by m cs c)) [] ≡ run m (Switch d cs) []
  without_empty_same d cs no_case n = unless_same d cs
  without_empty_same d cs (case t ss no_case) n = go (is_removable m true t ss)
    where
      go : (b : Bool) → run m (Switch d (cond b (unless_default_left m cs (without_end m cs)) (without_before_last m cs))) [] ≡ run m (Switch d cs) []
      go true = unless_same d cs
      go false = before_same d cs t ss n
  without_empty_same d cs (case t ss (case t' ss' r)) n = go (is_removable m true t ss)
    where
      go : (b : Bool) → run m (Switch d (cond b (unless_default_left m cs (without_end m cs)) cs)) [] ≡ run m (Switch d cs) []
      go true = unless_same d cs
      go false = refl

  switch_labels : (d : Expression) (cs : Cases) (ls : List ℕ) → run m (Switch d cs) ls ≡ run m (Switch d cs) []
  unfolding run
  switch_labels d cs ls = refl

  finish_labels : (d : Expression) (cs : Cases) (ls : List ℕ) → run m (finish_switch m d cs).result ls ≡ run m (finish_switch m d cs).result []
  unfolding run
  finish_labels d no_case ls = refl
  finish_labels d (case t ss cs) ls = refl

  try_switch_run : (d : Expression) (cs : Cases) (ls : List ℕ) → run m (try_fold_switch m d cs).result ls ≡ run m (Switch d cs) ls
  try_switch_run d cs ls =
      finish_labels d (without_empty m cs) ls ∙ finish_same m d (without_empty m cs) ∙ without_empty_same d cs (cases_from_default cs) refl ∙ sym (switch_labels d cs ls)

  pub switch_run : (d : Expression) (cs : Cases) (ls : List ℕ) → run m (fold_switch m d cs).result ls ≡ run m (Switch d cs) ls
  switch_run d cs ls = try_switch_run d (drop_unreachable_switch_cases m d cs).result ls ∙ select_run m law d cs ls
