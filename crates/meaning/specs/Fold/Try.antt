-- try_fold_try: a Body that is empty throws nothing, so its catch is cleared but for a stub; an empty finalizer goes
-- where there is a catch; and a Try of which only a finalizer or nothing is left is replaced by that.
--   before: `try {} catch { f; var z } finally {}`   after: `try {} catch { var z }`
--   before: `try {} finally { f }`   after: `{ f }`
use Rattle.std.specs.Prelude.{ℕ, Bool, true, false, cond, Option}
use Rattle.words.specs.Tree.{Statement, Empty, Block, TryCatch, TryFinally, TryBoth}
use Rattle.words.specs.Tree.{Statements, none, some, Let}
use Rattle.meaning.specs.Fold.Folded.{Folded, unchanged, changed, plus_changes}
use Rattle.meaning.specs.Fold.KeepVar.{keep_list, stub_list}
use Rattle.meaning.specs.Fold.IsTerminated.{is_bare_var}

-- nothing, or a Var without initializers alone
abbrev pub is_cleared : Statements → Bool
is_cleared none = true
is_cleared (some s none) = is_bare_var s
is_cleared (some s (some t ss)) = false
is_cleared (some s (Let d ds ss)) = false
is_cleared (Let d ds ss) = false

-- the catch of a Body that is empty
abbrev pub clear_catch : Statements → Folded Statements
clear_catch c = cond (is_cleared c) (unchanged c) (changed (stub_list (keep_list c)))

-- the catch of a Body
abbrev pub fold_catch : Statements → Statements → Folded Statements
fold_catch none c = clear_catch c
fold_catch (some s b) c = unchanged c
fold_catch (Let d ds b) c = unchanged c

-- a Try without finalizer
abbrev pub finish_catch : Statements → Option ℕ → Statements → Folded Statement
finish_catch none x none = changed Empty
finish_catch none x (some t c) = unchanged (TryCatch none x (some t c))
finish_catch none x (Let d ds c) = unchanged (TryCatch none x (Let d ds c))
finish_catch (some s b) x c = unchanged (TryCatch (some s b) x c)
finish_catch (Let d ds b) x c = unchanged (TryCatch (Let d ds b) x c)

-- a Try with both, the finalizer not empty
abbrev pub keep_finalizer : Statements → Option ℕ → Statements → Statements → Folded Statement
keep_finalizer none x none f = changed (Block f)
keep_finalizer none x (some t c) f = unchanged (TryBoth none x (some t c) f)
keep_finalizer none x (Let d ds c) f = unchanged (TryBoth none x (Let d ds c) f)
keep_finalizer (some s b) x c f = unchanged (TryBoth (some s b) x c f)
keep_finalizer (Let d ds b) x c f = unchanged (TryBoth (Let d ds b) x c f)

abbrev pub finish_both : Statements → Option ℕ → Statements → Statements → Folded Statement
finish_both b x c none = plus_changes 1 (finish_catch b x c)
finish_both b x c (some t f) = keep_finalizer b x c (some t f)
finish_both b x c (Let d ds f) = keep_finalizer b x c (Let d ds f)

abbrev pub try_fold_catch : Statements → Option ℕ → Statements → Folded Statement
try_fold_catch b x c = plus_changes (fold_catch b c).changes (finish_catch b x (fold_catch b c).result)

abbrev pub try_fold_finally : Statements → Statements → Folded Statement
try_fold_finally none f = changed (Block f)
try_fold_finally (some s b) f = unchanged (TryFinally (some s b) f)
try_fold_finally (Let d ds b) f = unchanged (TryFinally (Let d ds b) f)

abbrev pub try_fold_both : Statements → Option ℕ → Statements → Statements → Folded Statement
try_fold_both b x c f = plus_changes (fold_catch b c).changes (finish_both b x (fold_catch b c).result f)
