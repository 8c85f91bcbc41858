-- drop_unreachable_switch_cases: where the values of the discriminant and of every test up to the entry are known, a
-- Switch of two or more cases keeps one: what runs from the entry on. Tests with effects that were evaluated stay
-- in order, and the Vars of cases that do not run stay as a stub. A Let directly in a case rules it out.
--   before: `switch (1) { case 2: f; case 1: g; break; case 3: var z }`   after: `switch (1) { case 1: g; break; var z }`
--   before: `switch (1) { case (f, 2): g; default: h }`   after: `switch (1) { default: (f, 2); h }`
use Rattle.std.specs.Prelude.{ℕ, zero, suc, Bool, true, false, cond, ◌&&◌, ◌||◌, List, [], ◌∷◌, ◌++◌, Some, None, Option}
use Rattle.words.specs.Tree.{Expression, expression, Expr}
use Rattle.words.specs.Tree.{Statements, none, some, Let, Cases, no_case, case}
use Rattle.host.specs.Model.{Model, Value}
use Rattle.host.specs.Sequence.{parts_of, value_of, effects_of}
use Rattle.meaning.specs.Run.{let_names_cases}
use Rattle.meaning.specs.Fold.Folded.{Folded, unchanged, changed}
use Rattle.meaning.specs.Fold.KeepVar.{keep_list, stub_list}
use Rattle.meaning.specs.Fold.IsTerminated.{is_terminated_list}

-- the case where the run goes on, counted from 0: the one whose test is equal, the Default, or none at all
pub data Entry : Type 0 where
  matched default : ℕ → Entry
  missing : Entry

-- where the selection stands: so many cases before the entry, in the fall-through from it, or past its end
pub data Standing : Type 0 where
  before : ℕ → Standing
  through past : Standing

abbrev pub join : Statements → Statements → Statements
join none ts = ts
join (some s ss) ts = some s (join ss ts)
join (Let d ds ss) ts = Let d ds (join ss ts)

abbrev pub optional_parts : Option Expression → List ℕ
optional_parts None = []
optional_parts (Some e) = parts_of e

-- after a case, by whether its statements are terminated
abbrev pub next : Standing → Bool → Standing
next (before zero) ends = cond ends past through
next (before (suc k)) ends = before k
next through ends = cond ends past through
next past ends = past

-- whether the statements of the next case run
abbrev pub lives : Standing → Bool
lives (before zero) = true
lives (before (suc k)) = false
lives through = true
lives past = false

-- whether the test of the next case stays: the entry's, and those with effects that are evaluated before the
-- statements; `all`: every test is evaluated; `always`: it stays in any case
abbrev pub keeps_test : Bool → Bool → Standing → Bool → Bool
keeps_test always all (before zero) effects = true
keeps_test always all (before (suc k)) effects = effects
keeps_test always all through effects = always || (all && effects)
keeps_test always all past effects = always || (all && effects)

-- the statements that run, and the names of those that do not
abbrev pub bodies : Standing → Cases → Statements
bodies st no_case = none
bodies st (case t ss cs) = join (cond (lives st) ss none) (bodies (next st (is_terminated_list ss)) cs)

abbrev pub lost_names : Standing → Cases → List ℕ
lost_names st no_case = []
lost_names st (case t ss cs) = cond (lives st) [] (keep_list ss) ++ lost_names (next st (is_terminated_list ss)) cs

abbrev pub kept_statements : Standing → Cases → Statements
kept_statements st cs = join (bodies st cs) (stub_list (lost_names st cs))

-- tests in a row as one expression, or as a statement in front of others
abbrev pub as_test : List ℕ → Option Expression
as_test [] = None
as_test (x ∷ xs) = Some (expression x xs)

abbrev pub lead : List ℕ → Statements → Statements
lead [] ss = ss
lead (x ∷ xs) ss = some (Expr (expression x xs)) ss

-- one case further on
abbrev pub later : Option Entry → Option Entry
later None = None
later (Some (matched k)) = Some (matched (suc k))
later (Some (default k)) = Some (default (suc k))
later (Some missing) = Some missing

-- past a Default, which is the entry where no test is equal
abbrev pub at_default : Option Entry → Option Entry
at_default None = None
at_default (Some (matched k)) = Some (matched (suc k))
at_default (Some (default k)) = Some (default zero)
at_default (Some missing) = Some (default zero)

abbrev pub is_several : Cases → Bool
is_several no_case = false
is_several (case t ss no_case) = false
is_several (case t ss (case u ts cs)) = true

abbrev pub is_none : List ℕ → Bool
is_none [] = true
is_none (x ∷ xs) = false

module _ (m : Model) where
  abbrev pub kept_tests : Bool → Bool → Standing → Cases → List ℕ
  kept_tests always all st no_case = []
  kept_tests always all st (case t ss cs) =
      cond (keeps_test always all st (effects_of m (optional_parts t))) (optional_parts t) [] ++ kept_tests false all (next st (is_terminated_list ss)) cs

  abbrev pub entry_at : Value → Option Value → Option Entry → Option Entry
  entry_at v None rest = None
  entry_at v (Some u) rest = cond (m.strictly_equal v u) (Some (matched zero)) (later rest)

  -- unknown where the value of a test up to the equal one is
  abbrev pub entry_of : Value → Cases → Option Entry
  entry_of v no_case = Some missing
  entry_of v (case None ss cs) = at_default (entry_of v cs)
  entry_of v (case (Some t) ss cs) = entry_at v (value_of m (parts_of t)) (entry_of v cs)

  -- the case that is kept
  abbrev pub selected : Entry → Cases → Cases
  selected (matched k) cs = case (as_test (kept_tests false false (before k) cs)) (kept_statements (before k) cs) no_case
  selected (default k) cs = case None (lead (kept_tests false true (before k) cs) (kept_statements (before k) cs)) no_case
  selected missing cs = case (as_test (kept_tests true true past cs)) (kept_statements past cs) no_case

  abbrev pub select_entry : Option Entry → Cases → Folded Cases
  select_entry None cs = unchanged cs
  select_entry (Some e) cs = changed (selected e cs)

  abbrev pub select_value : Option Value → Cases → Folded Cases
  select_value None cs = unchanged cs
  select_value (Some v) cs = select_entry (entry_of v cs) cs

  abbrev pub drop_unreachable_switch_cases : Expression → Cases → Folded Cases
  drop_unreachable_switch_cases e cs =
      cond (is_several cs && is_none (let_names_cases cs)) (select_value (value_of m (parts_of e)) cs) (unchanged cs)
