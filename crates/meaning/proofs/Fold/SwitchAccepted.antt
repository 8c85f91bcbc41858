-- The folds of a Switch: what they make keeps the rules.
use Rattle.std.proofs.Common.{ℕ, ◌≤◌, Bool, true, false, cond, ◌&&◌, List, [], ◌∷◌, Some, None, Option}
use Rattle.host.specs.Model.{Model}
use Rattle.host.specs.Sequence.{parts_of, value_of, effects_of}
use Rattle.words.specs.Tree.{Expression, expression}
use Rattle.words.specs.Tree.{Switch}
use Rattle.words.specs.Tree.{Statements, none, some, Let, Cases, no_case, case}
use Rattle.checker.specs.Check.{Around, depth_limit}
use Rattle.checker.specs.Rules.{Keeps, KeepsList, KeepsCases, Known, KnownOptional, AllBelow, switch_case, listed, OneDefault, NoDefault}
use Rattle.meaning.specs.Fold.Folded.{unchanged}
use Rattle.meaning.specs.Fold.IsTerminated.{is_terminated_list}
use Rattle.meaning.specs.Run.{let_names_cases}
use Rattle.meaning.specs.Fold.Select.{Entry, matched, default, missing, Standing, before, past, optional_parts, next, lives, keeps_test, bodies, lost_names, kept_statements, as_test, lead, is_several, is_none, kept_tests, entry_of, selected, select_entry, select_value, drop_unreachable_switch_cases}
use Rattle.meaning.specs.Fold.Switch.{is_break, without_last_break, cases_without_last_break, has_default, cases_from_default, cut_last, cut_before_last, is_removable, without_end, without_before_last, unless_default_left, without_empty_by, without_empty, finish_switch, fold_switch}
use Rattle.meaning.proofs.Keeps.{keeps_stub_list, keeps_join, below_append}

module _ (count : ℕ) (a : Around) where
  -- cases that keep the rules, with at most one Default
  abbrev Good : Cases → Type 0
  Good cs = KeepsCases count a cs × OneDefault cs

  known_parts : (t : Option Expression) → KnownOptional count t → AllBelow count (optional_parts t)
  known_parts None q = tt
  known_parts (Some (expression x xs)) q = q

  below_cond : (b : Bool) (xs : List ℕ) → AllBelow count xs → AllBelow count (cond b xs [])
  below_cond true xs q = q
  below_cond false xs q = tt

  keeps_cond : (b : Bool) (ss : Statements) → KeepsList count (listed a) ss → KeepsList count (listed a) (cond b ss none)
  keeps_cond true ss q = q
  keeps_cond false ss q = tt

  bodies_keep : (st : Standing) (cs : Cases) → KeepsCases count a cs → KeepsList count (listed a) (bodies st cs)
  bodies_keep st no_case q = tt
  bodies_keep st (case t ss cs) q = keeps_join count (listed a) (cond (lives st) ss none) _ (keeps_cond (lives st) ss q.2) (bodies_keep (next st (is_terminated_list ss)) cs q.3)

  kept_keep : (st : Standing) (cs : Cases) → a.depth ≤ depth_limit → KeepsCases count a cs → KeepsList count (listed a) (kept_statements st cs)
  kept_keep st cs d q = keeps_join count (listed a) (bodies st cs) _ (bodies_keep st cs q) (keeps_stub_list count (listed a) (lost_names st cs) d)

  test_known : (ts : List ℕ) → AllBelow count ts → KnownOptional count (as_test ts)
  test_known [] q = tt
  test_known (t ∷ ts) q = q

  lead_keep : (ts : List ℕ) (ss : Statements) → a.depth ≤ depth_limit → AllBelow count ts → KeepsList count (listed a) ss → KeepsList count (listed a) (lead ts ss)
  lead_keep [] ss d p q = q
  lead_keep (t ∷ ts) ss d p q = ((d, p), q)

  alone : (t : Option Expression) (ss : Statements) → OneDefault (case t ss no_case)
  alone None ss = tt
  alone (Some t) ss = tt

  module _ (m : Model) where
    tests_below : (always all : Bool) (st : Standing) (cs : Cases) → KeepsCases count a cs → AllBelow count (kept_tests m always all st cs)
    tests_below always all st no_case q = tt
    tests_below always all st (case t ss cs) q =
        below_append count (cond (keeps_test always all st (effects_of m (optional_parts t))) (optional_parts t) []) _
        (below_cond (keeps_test always all st (effects_of m (optional_parts t))) (optional_parts t) (known_parts t q.1)) (tests_below false all (next st (is_terminated_list ss)) cs q.3)

    selected_good : (e : Entry) (cs : Cases) → a.depth ≤ depth_limit → KeepsCases count a cs → Good (selected m e cs)
    selected_good (matched k) cs d q = ((d, test_known (kept_tests m false false (before k) cs) (tests_below false false (before k) cs q), kept_keep (before k) cs d q, tt), alone (as_test (kept_tests m false false (before k) cs)) _)
    selected_good (default k) cs d q = ((d, tt, lead_keep (kept_tests m false true (before k) cs) _ d (tests_below false true (before k) cs q) (kept_keep (before k) cs d q), tt), tt)
    selected_good missing cs d q = ((d, test_known (kept_tests m true true past cs) (tests_below true true past cs q), kept_keep past cs d q, tt), alone (as_test (kept_tests m true true past cs)) _)

    entry_good : (o : Option Entry) (cs : Cases) → a.depth ≤ depth_limit → Good cs → Good (select_entry m o cs).result
    entry_good None cs d q = q
    entry_good (Some e) cs d q = selected_good e cs d q.0

    value_good : (x : Option (List ℕ)) (cs : Cases) → a.depth ≤ depth_limit → Good cs → Good (select_value m x cs).result
    value_good None cs d q = q
    value_good (Some v) cs d q = entry_good (entry_of m v cs) cs d q

    pub select_good : (e : Expression) (cs : Cases) → Good cs → Good (drop_unreachable_switch_cases m e cs).result
    select_good e no_case q = q
    select_good e (case t ss cs) q = go (is_several (case t ss cs) && is_none (let_names_cases (case t ss cs)))
      where
        go : (b : Bool) → Good (cond b (select_value m (value_of m (parts_of e)) (case t ss cs)) (unchanged (case t ss cs))).result
        go true = value_good (value_of m (parts_of e)) (case t ss cs) q.0.0 q
        go false = q

  none_one : (cs : Cases) → NoDefault cs → OneDefault cs
  none_one no_case q = tt
  none_one (case None ss cs) q = absurd q
  none_one (case (Some t) ss cs) q = none_one cs q

  -- what is left has no Default where there was none, and at most one where there was at most one
  abbrev Defaults : Cases → Cases → Type 0
  Defaults cs r = (NoDefault cs → NoDefault r) × (OneDefault cs → OneDefault r)

  cut_last_keep : (b : Bool) (t : Option Expression) (ss : Statements) (r : Cases) → KeepsCases count a (case t ss r) → KeepsCases count a (cut_last b t ss r)
  unfolding cut_last
  cut_last_keep true t ss no_case q = tt
  cut_last_keep true t ss (case u ts cs) q = q
  cut_last_keep false t ss r q = q

  cut_last_default : (b : Bool) (t : Option Expression) (ss : Statements) (cs r : Cases) → Defaults cs r → Defaults (case t ss cs) (cut_last b t ss r)
  unfolding cut_last
  cut_last_default true t ss cs no_case p = (λ _. tt, λ _. tt)
  cut_last_default true None ss cs (case u ts r) p = (λ q. q, p.0)
  cut_last_default true (Some t) ss cs (case u ts r) p = p
  cut_last_default false None ss cs r p = (λ q. q, p.0)
  cut_last_default false (Some t) ss cs r p = p

  cut_before_keep : (b : Bool) (t : Option Expression) (ss : Statements) (r : Cases) → KeepsCases count a (case t ss r) → KeepsCases count a (cut_before_last b t ss r)
  unfolding cut_before_last
  cut_before_keep b t ss no_case q = q
  cut_before_keep true t ss (case u ts no_case) q = q.3
  cut_before_keep false t ss (case u ts no_case) q = q
  cut_before_keep b t ss (case u ts (case v us cs)) q = q

  cut_before_default : (b : Bool) (t : Option Expression) (ss : Statements) (cs r : Cases) → Defaults cs r → Defaults (case t ss cs) (cut_before_last b t ss r)
  unfolding cut_before_last
  cut_before_default b None ss cs no_case p = (λ q. q, p.0)
  cut_before_default b (Some t) ss cs no_case p = p
  cut_before_default true None ss cs (case u ts no_case) p = (λ q. absurd q, λ q. none_one (case u ts no_case) (p.0 q))
  cut_before_default true (Some t) ss cs (case u ts no_case) p = p
  cut_before_default false None ss cs (case u ts no_case) p = (λ q. q, p.0)
  cut_before_default false (Some t) ss cs (case u ts no_case) p = p
  cut_before_default b None ss cs (case u ts (case v us r)) p = (λ q. q, p.0)
  cut_before_default b (Some t) ss cs (case u ts (case v us r)) p = p

  module _ (m : Model) where
    end_keep : (cs : Cases) → KeepsCases count a cs → KeepsCases count a (without_end m cs)
    unfolding without_end
    end_keep no_case q = tt
    end_keep (case t ss cs) q = cut_last_keep (is_removable m true t ss) t ss (without_end m cs) (q.0, q.1, q.2, end_keep cs q.3)

    end_default : (cs : Cases) → Defaults cs (without_end m cs)
    unfolding without_end
    end_default no_case = (λ q. q, λ q. q)
    end_default (case t ss cs) = cut_last_default (is_removable m true t ss) t ss cs (without_end m cs) (end_default cs)

    before_keep : (cs : Cases) → KeepsCases count a cs → KeepsCases count a (without_before_last m cs)
    unfolding without_before_last
    before_keep no_case q = tt
    before_keep (case t ss cs) q = cut_before_keep (is_removable m false t ss) t ss (without_before_last m cs) (q.0, q.1, q.2, before_keep cs q.3)

    before_default : (cs : Cases) → Defaults cs (without_before_last m cs)
    unfolding without_before_last
    before_default no_case = (λ q. q, λ q. q)
    before_default (case t ss cs) = cut_before_default (is_removable m false t ss) t ss cs (without_before_last m cs) (before_default cs)

    good_cond : (b : Bool) (cs r : Cases) → Good cs → Good r → Good (cond b cs r)
    good_cond true cs r p q = p
    good_cond false cs r p q = q

    unless_good : (cs : Cases) → Good cs → Good (unless_default_left m cs (without_end m cs))
    unless_good cs q = good_cond (has_default (without_end m cs)) cs (without_end m cs) q (end_keep cs q.0, (end_default cs).1 q.1)

    empty_good : (cs r : Cases) → Good cs → Good (without_empty_by m cs r)
    empty_good cs no_case q = unless_good cs q
    empty_good cs (case t ss no_case) q = good_cond (is_removable m true t ss) _ _ (unless_good cs q) (before_keep cs q.0, (before_default cs).1 q.1)
    empty_good cs (case t ss (case u ts r)) q = good_cond (is_removable m true t ss) _ _ (unless_good cs q) q

  last_keep : (b : Around) (ss : Statements) → KeepsList count b ss → KeepsList count b (without_last_break ss)
  unfolding without_last_break
  last_keep b none q = tt
  last_keep b (some s none) q = go (is_break s)
    where
      go : (c : Bool) → KeepsList count b (cond c none (some s none))
      go true = tt
      go false = q
  last_keep b (some s (some t ss)) q = (q.0, last_keep b (some t ss) q.1)
  last_keep b (some s (Let d ds ss)) q = (q.0, last_keep b (Let d ds ss) q.1)
  last_keep b (Let d ds ss) q = (q.0, q.1, last_keep b ss q.2)

  break_keep : (cs : Cases) → KeepsCases count a cs → KeepsCases count a (cases_without_last_break cs)
  unfolding cases_without_last_break
  break_keep no_case q = tt
  break_keep (case t ss no_case) q = (q.0, q.1, last_keep (listed a) ss q.2, tt)
  break_keep (case t ss (case u ts cs)) q = (q.0, q.1, q.2, break_keep (case u ts cs) q.3)

  break_default : (cs : Cases) → Defaults cs (cases_without_last_break cs)
  unfolding cases_without_last_break
  break_default no_case = (λ q. q, λ q. q)
  break_default (case None ss no_case) = (λ q. q, λ q. q)
  break_default (case (Some t) ss no_case) = (λ q. q, λ q. q)
  break_default (case None ss (case u ts cs)) = (λ q. q, (break_default (case u ts cs)).0)
  break_default (case (Some t) ss (case u ts cs)) = break_default (case u ts cs)

finish_accepted : (count : ℕ) (a : Around) (m : Model) (e : Expression) (cs : Cases) → a.depth ≤ depth_limit → Known count e → Good count (switch_case a) cs → Keeps count a (finish_switch m e cs).result
finish_accepted count a m e no_case d p q = (d, p)
finish_accepted count a m e (case t ss cs) d p q = (d, p, break_keep count (switch_case a) (case t ss cs) q.0, (break_default count (switch_case a) (case t ss cs)).1 q.1)

pub switch_accepted : (count : ℕ) (a : Around) (m : Model) (e : Expression) (cs : Cases) → Keeps count a (Switch e cs) → Keeps count a (fold_switch m e cs).result
switch_accepted count a m e cs q =
    let good = select_good count (switch_case a) m e cs (q.2, q.3) in
    finish_accepted count a m e (without_empty m (drop_unreachable_switch_cases m e cs).result) q.0 q.1
    (empty_good count (switch_case a) m (drop_unreachable_switch_cases m e cs).result (cases_from_default (drop_unreachable_switch_cases m e cs).result) good)
