-- The folds of a Switch: the names of what they make.
use Rattle.std.proofs.Common.{◌≡◌, ℕ, Bool, true, false, cond, ◌&&◌, List, [], ◌∷◌, ◌++◌, Some, None, Option, sym, refl, ap, ◌∙◌}
use Rattle.host.specs.Model.{Model}
use Rattle.host.specs.Sequence.{parts_of, value_of}
use Rattle.words.specs.Tree.{Expression}
use Rattle.words.specs.Tree.{Statement, Empty, Break, Continue, Block, Expr, Throw, Var, If, IfElse, For, While, Do, Switch, Label, BreakTo, ContinueTo, Return, TryCatch, TryFinally, TryBoth}
use Rattle.words.specs.Tree.{Statements, none, some, Let, Cases, no_case, case}
use Rattle.slices.specs.Among.{among}
use Rattle.meaning.specs.Run.{let_names_cases}
use Rattle.meaning.specs.FoldLaws.{NamesLeft}
use Rattle.meaning.specs.Fold.Folded.{unchanged}
use Rattle.meaning.specs.Fold.KeepVar.{keep_var, keep_list, keep_cases, stub_list}
use Rattle.meaning.specs.Fold.IsTerminated.{is_terminated_list}
use Rattle.meaning.specs.Fold.Select.{Entry, matched, default, missing, Standing, before, past, join, next, lives, bodies, lost_names, kept_statements, lead, is_several, is_none, kept_tests, entry_of, selected, select_entry, select_value, drop_unreachable_switch_cases}
use Rattle.meaning.specs.Fold.Switch.{is_blank, all_blank, is_break, without_last_break, cases_without_last_break, has_default, cases_from_default, cut_last, cut_before_last, is_removable, without_end, without_before_last, without_empty_by, without_empty, finish_switch, fold_switch}
use Rattle.meaning.proofs.Evaluations.{append_nil}
use Rattle.meaning.proofs.Surroundings.{among_append}
use Rattle.meaning.proofs.Terminated.{and_left}
use Rattle.meaning.proofs.Names.{left_same, left_eq, left_alike, left_chain, keep_stub_list, keep_join}

either_assoc : (a r l : Bool) → cond (cond a true r) true l ≡ cond a true (cond r true l)
either_assoc true r l = refl
either_assoc false r l = refl

either_swap : (r b l : Bool) → cond r true (cond b true l) ≡ cond b true (cond r true l)
either_swap true true l = refl
either_swap true false l = refl
either_swap false b l = refl

-- what a selection keeps and what it loses are the names of all the cases
kept_names : (st : Standing) (cs : Cases) (x : ℕ) → cond (among x (keep_list (bodies st cs))) true (among x (lost_names st cs)) ≡ among x (keep_cases cs)
unfolding keep_var
kept_names st no_case x = refl
kept_names st (case t ss cs) x = go (lives st) (kept_names (next st (is_terminated_list ss)) cs x) ∙ sym (among_append x (keep_list ss) (keep_cases cs))
  where
    go : (b : Bool) → cond (among x (keep_list (bodies (next st (is_terminated_list ss)) cs))) true (among x (lost_names (next st (is_terminated_list ss)) cs)) ≡ among x (keep_cases cs) →
        cond (among x (keep_list (join (cond b ss none) (bodies (next st (is_terminated_list ss)) cs)))) true (among x (cond b [] (keep_list ss) ++ lost_names (next st (is_terminated_list ss)) cs))
        ≡ cond (among x (keep_list ss)) true (among x (keep_cases cs))
    go true r =
        ap (λ y. cond y true (among x (lost_names (next st (is_terminated_list ss)) cs))) (ap (among x) (keep_join ss _) ∙ among_append x (keep_list ss) _)
        ∙ either_assoc (among x (keep_list ss)) _ _ ∙ ap (λ y. cond (among x (keep_list ss)) true y) r
    go false r =
        ap (λ y. cond (among x (keep_list (bodies (next st (is_terminated_list ss)) cs))) true y) (among_append x (keep_list ss) _)
        ∙ either_swap (among x (keep_list (bodies (next st (is_terminated_list ss)) cs))) (among x (keep_list ss)) _ ∙ ap (λ y. cond (among x (keep_list ss)) true y) r

kept_alike : (st : Standing) (cs : Cases) (x : ℕ) → among x (keep_list (kept_statements st cs)) ≡ among x (keep_cases cs)
kept_alike st cs x =
    ap (among x) (keep_join (bodies st cs) (stub_list (lost_names st cs)) ∙ ap (λ y. keep_list (bodies st cs) ++ y) (keep_stub_list (lost_names st cs)))
    ∙ among_append x (keep_list (bodies st cs)) (lost_names st cs) ∙ kept_names st cs x

keep_lead : (ts : List ℕ) (ss : Statements) → keep_list (lead ts ss) ≡ keep_list ss
unfolding keep_var
keep_lead [] ss = refl
keep_lead (t ∷ ts) ss = refl

alone : (t : Option Expression) (ss : Statements) → keep_cases (case t ss no_case) ≡ keep_list ss
unfolding keep_var
alone t ss = append_nil (keep_list ss)

blank_names : (b : Bool) (s : Statement) → is_blank b s ≡ true → keep_var s ≡ []
unfolding is_blank keep_var
blank_names b Empty q = refl
blank_names b Break q = refl
blank_names b Continue q = cc
blank_names b (Block ss) q = cc
blank_names b (Expr e) q = cc
blank_names b (Throw e) q = cc
blank_names b (Var d ds) q = cc
blank_names b (If e s) q = cc
blank_names b (IfElse e s t) q = cc
blank_names b (For i t u s) q = cc
blank_names b (While e s) q = cc
blank_names b (Do s e) q = cc
blank_names b (Switch e cs) q = cc
blank_names b (Label l s) q = cc
blank_names b (BreakTo l) q = cc
blank_names b (ContinueTo l) q = cc
blank_names b (Return e) q = cc
blank_names b (TryCatch a x c) q = cc
blank_names b (TryFinally a f) q = cc
blank_names b (TryBoth a x c f) q = cc

all_blank_names : (b : Bool) (ss : Statements) → all_blank b ss ≡ true → keep_list ss ≡ []
unfolding all_blank keep_var
all_blank_names b none q = refl
all_blank_names b (some s none) q = append_nil (keep_var s) ∙ blank_names b s q
all_blank_names b (some s (some t ss)) q = cc
all_blank_names b (some s (Let d ds ss)) q = cc
all_blank_names b (Let d ds ss) q = cc

break_names : (s : Statement) → is_break s ≡ true → keep_var s ≡ []
unfolding is_break keep_var
break_names Empty q = cc
break_names Break q = refl
break_names Continue q = cc
break_names (Block ss) q = cc
break_names (Expr e) q = cc
break_names (Throw e) q = cc
break_names (Var d ds) q = cc
break_names (If e s) q = cc
break_names (IfElse e s t) q = cc
break_names (For i t u s) q = cc
break_names (While e s) q = cc
break_names (Do s e) q = cc
break_names (Switch e cs) q = cc
break_names (Label l s) q = cc
break_names (BreakTo l) q = cc
break_names (ContinueTo l) q = cc
break_names (Return e) q = cc
break_names (TryCatch b x c) q = cc
break_names (TryFinally b f) q = cc
break_names (TryBoth b x c f) q = cc

last_names : (ss : Statements) → keep_list (without_last_break ss) ≡ keep_list ss
unfolding without_last_break keep_var
last_names none = refl
last_names (some s none) = go (is_break s) refl
  where
    go : (b : Bool) → is_break s ≡ b → keep_list (cond b none (some s none)) ≡ keep_var s ++ []
    go true q = sym (append_nil (keep_var s) ∙ break_names s q)
    go false q = refl
last_names (some s (some t ss)) = ap (λ x. keep_var s ++ x) (last_names (some t ss))
last_names (some s (Let d ds ss)) = ap (λ x. keep_var s ++ x) (last_names (Let d ds ss))
last_names (Let d ds ss) = last_names ss

break_cases_names : (cs : Cases) → keep_cases (cases_without_last_break cs) ≡ keep_cases cs
unfolding cases_without_last_break keep_var
break_cases_names no_case = refl
break_cases_names (case t ss no_case) = ap (λ x. x ++ []) (last_names ss)
break_cases_names (case t ss (case u ts cs)) = ap (λ x. keep_list ss ++ x) (break_cases_names (case u ts cs))

module _ (m : Model) where
  removable_names : (b : Bool) (t : Option Expression) (ss : Statements) → is_removable m b t ss ≡ true → keep_list ss ≡ []
  unfolding is_removable
  removable_names b t ss q = all_blank_names b ss (and_left _ _ q)

  none_append : (xs ys : List ℕ) → xs ≡ [] → xs ++ ys ≡ ys
  none_append xs ys p = ap (λ x. x ++ ys) p

  cut_last_names : (t : Option Expression) (ss : Statements) (cs r : Cases) → keep_cases r ≡ keep_cases cs → (b : Bool) → is_removable m true t ss ≡ b → keep_cases (cut_last b t ss r) ≡ keep_cases (case t ss cs)
  unfolding cut_last keep_var
  cut_last_names t ss cs no_case p true q = p ∙ sym (none_append (keep_list ss) (keep_cases cs) (removable_names true t ss q))
  cut_last_names t ss cs (case u ts r) p true q = ap (λ x. keep_list ss ++ x) p
  cut_last_names t ss cs r p false q = ap (λ x. keep_list ss ++ x) p

  end_names : (cs : Cases) → keep_cases (without_end m cs) ≡ keep_cases cs
  unfolding without_end
  end_names no_case = refl
  end_names (case t ss cs) = cut_last_names t ss cs (without_end m cs) (end_names cs) (is_removable m true t ss) refl

  cut_before_names : (t : Option Expression) (ss : Statements) (cs r : Cases) → keep_cases r ≡ keep_cases cs → (b : Bool) → is_removable m false t ss ≡ b → keep_cases (cut_before_last b t ss r) ≡ keep_cases (case t ss cs)
  unfolding cut_before_last keep_var
  cut_before_names t ss cs no_case p b q = ap (λ x. keep_list ss ++ x) p
  cut_before_names t ss cs (case u ts no_case) p true q = p ∙ sym (none_append (keep_list ss) (keep_cases cs) (removable_names false t ss q))
  cut_before_names t ss cs (case u ts no_case) p false q = ap (λ x. keep_list ss ++ x) p
  cut_before_names t ss cs (case u ts (case v us r)) p b q = ap (λ x. keep_list ss ++ x) p

  before_names : (cs : Cases) → keep_cases (without_before_last m cs) ≡ keep_cases cs
  unfolding without_before_last
  before_names no_case = refl
  before_names (case t ss cs) = cut_before_names t ss cs (without_before_last m cs) (before_names cs) (is_removable m false t ss) refl

  cond_names : (b : Bool) (cs r s : Cases) → keep_cases r ≡ keep_cases cs → keep_cases s ≡ keep_cases cs → keep_cases (cond b r s) ≡ keep_cases cs
  cond_names true cs r s p q = p
  cond_names false cs r s p q = q

  empty_names : (cs c : Cases) → keep_cases (without_empty_by m cs c) ≡ keep_cases cs
  empty_names cs no_case = cond_names (has_default (without_end m cs)) cs cs (without_end m cs) refl (end_names cs)
  empty_names cs (case t ss no_case) = cond_names (is_removable m true t ss) cs _ _ (cond_names (has_default (without_end m cs)) cs cs (without_end m cs) refl (end_names cs)) (before_names cs)
  empty_names cs (case t ss (case u ts r)) = cond_names (is_removable m true t ss) cs _ _ (cond_names (has_default (without_end m cs)) cs cs (without_end m cs) refl (end_names cs)) refl

  finish_names : (e : Expression) (cs : Cases) → keep_var (finish_switch m e cs).result ≡ keep_cases cs
  unfolding keep_var
  finish_names e no_case = refl
  finish_names e (case t ss cs) = break_cases_names (case t ss cs)

  selected_names : (e : Entry) (cs : Cases) (x : ℕ) → among x (keep_cases (selected m e cs)) ≡ among x (keep_cases cs)
  selected_names (matched k) cs x = ap (among x) (alone _ _) ∙ kept_alike (before k) cs x
  selected_names (default k) cs x = ap (among x) (alone None _ ∙ keep_lead (kept_tests m false true (before k) cs) _) ∙ kept_alike (before k) cs x
  selected_names missing cs x = ap (among x) (alone _ _) ∙ kept_alike past cs x

  entry_names : (o : Option Entry) (cs : Cases) → NamesLeft m (keep_cases cs) (keep_cases (select_entry m o cs).result)
  entry_names None cs = left_same m (keep_cases cs)
  entry_names (Some e) cs = left_alike m (keep_cases cs) _ (selected_names e cs)

  value_names : (x : Option (List ℕ)) (cs : Cases) → NamesLeft m (keep_cases cs) (keep_cases (select_value m x cs).result)
  value_names None cs = left_same m (keep_cases cs)
  value_names (Some v) cs = entry_names (entry_of m v cs) cs

  select_names : (e : Expression) (cs : Cases) → NamesLeft m (keep_cases cs) (keep_cases (drop_unreachable_switch_cases m e cs).result)
  select_names e cs = go (is_several cs && is_none (let_names_cases cs))
    where
      go : (b : Bool) → NamesLeft m (keep_cases cs) (keep_cases (cond b (select_value m (value_of m (parts_of e)) cs) (unchanged cs)).result)
      go true = value_names (value_of m (parts_of e)) cs
      go false = left_same m (keep_cases cs)

  pub switch_names : (e : Expression) (cs : Cases) → NamesLeft m (keep_cases cs) (keep_var (fold_switch m e cs).result)
  switch_names e cs = left_chain m _ _ _ (select_names e cs)
      (left_eq m _ _ (finish_names e (without_empty m (drop_unreachable_switch_cases m e cs).result) ∙ empty_names (drop_unreachable_switch_cases m e cs).result (cases_from_default (drop_unreachable_switch_cases m e cs).result)))
