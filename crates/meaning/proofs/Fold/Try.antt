-- The fold of a Try: what it makes keeps the rules and runs as before.
use Rattle.std.proofs.Common.{◌≡◌, ℕ, ◌≤◌, Bool, true, false, cond, List, Option, sym, refl, ap, ◌∙◌}
use Rattle.host.specs.Model.{Model}
use Rattle.meaning.specs.Completion.{Ending, normal, break, continue, gone, spent, break_to, continue_to, return, throw, Evaluation, end, ◌thereafter◌, if_normal, ◌then◌, catch_by, unless_stopped, finally}
use Rattle.meaning.specs.Run.{let_names, scoped, run, run_list}
use Rattle.words.specs.Tree.{TryCatch, TryFinally, TryBoth}
use Rattle.words.specs.Tree.{Statements, none, some, Let}
use Rattle.checker.specs.Check.{Around, depth_limit}
use Rattle.checker.specs.Rules.{Keeps, KeepsList, inside}
use Rattle.meaning.proofs.Surroundings.{keeps_deep}
use Rattle.meaning.specs.Fold.Folded.{unchanged, changed}
use Rattle.meaning.specs.Fold.KeepVar.{keep_list, stub_list}
use Rattle.meaning.specs.Fold.IsTerminated.{is_bare_var}
use Rattle.meaning.specs.Fold.Try.{clear_catch, fold_catch, finish_catch, keep_finalizer, finish_both, try_fold_catch, try_fold_finally, try_fold_both}
use Rattle.meaning.proofs.Sequencing.{then_normal}
use Rattle.meaning.proofs.Keeps.{keeps_stub_list}

keeps_either : (count : ℕ) (a : Around) (b : Bool) (c : Statements) → a.depth ≤ depth_limit → KeepsList count a c →
    KeepsList count a (cond b (unchanged c) (changed (stub_list (keep_list c)))).result
keeps_either count a true c d q = q
keeps_either count a false c d q = keeps_stub_list count a (keep_list c) d

clear_accepted : (count : ℕ) (a : Around) (c : Statements) → KeepsList count a c → KeepsList count a (clear_catch c).result
clear_accepted count a none q = tt
clear_accepted count a (some s none) q = keeps_either count a (is_bare_var s) (some s none) (keeps_deep count a s q.0) q
clear_accepted count a (some s (some t ss)) q = keeps_either count a false (some s (some t ss)) (keeps_deep count a s q.0) q
clear_accepted count a (some s (Let d ds ss)) q = keeps_either count a false (some s (Let d ds ss)) (keeps_deep count a s q.0) q
clear_accepted count a (Let d ds ss) q = keeps_either count a false (Let d ds ss) q.0 q

catch_accepted : (count : ℕ) (a : Around) (b c : Statements) → KeepsList count a c → KeepsList count a (fold_catch b c).result
catch_accepted count a none c q = clear_accepted count a c q
catch_accepted count a (some s b) c q = q
catch_accepted count a (Let d ds b) c q = q

finish_catch_accepted : (count : ℕ) (a : Around) (b : Statements) (x : Option ℕ) (c : Statements) → Keeps count a (TryCatch b x c) → Keeps count a (finish_catch b x c).result
finish_catch_accepted count a none x none q = q.0
finish_catch_accepted count a none x (some t c) q = q
finish_catch_accepted count a none x (Let d ds c) q = q
finish_catch_accepted count a (some s b) x c q = q
finish_catch_accepted count a (Let d ds b) x c q = q

keep_finalizer_accepted : (count : ℕ) (a : Around) (b : Statements) (x : Option ℕ) (c f : Statements) → Keeps count a (TryBoth b x c f) → Keeps count a (keep_finalizer b x c f).result
keep_finalizer_accepted count a none x none f q = (q.0, q.3)
keep_finalizer_accepted count a none x (some t c) f q = q
keep_finalizer_accepted count a none x (Let d ds c) f q = q
keep_finalizer_accepted count a (some s b) x c f q = q
keep_finalizer_accepted count a (Let d ds b) x c f q = q

finish_both_accepted : (count : ℕ) (a : Around) (b : Statements) (x : Option ℕ) (c f : Statements) → Keeps count a (TryBoth b x c f) → Keeps count a (finish_both b x c f).result
finish_both_accepted count a b x c none q = finish_catch_accepted count a b x c (q.0, q.1, q.2)
finish_both_accepted count a b x c (some t f) q = keep_finalizer_accepted count a b x c (some t f) q
finish_both_accepted count a b x c (Let d ds f) q = keep_finalizer_accepted count a b x c (Let d ds f) q

pub try_catch_accepted : (count : ℕ) (a : Around) (b : Statements) (x : Option ℕ) (c : Statements) → Keeps count a (TryCatch b x c) → Keeps count a (try_fold_catch b x c).result
try_catch_accepted count a b x c q = finish_catch_accepted count a b x _ (q.0, q.1, catch_accepted count (inside a) b c q.2)

pub try_finally_accepted : (count : ℕ) (a : Around) (b f : Statements) → Keeps count a (TryFinally b f) → Keeps count a (try_fold_finally b f).result
try_finally_accepted count a none f q = (q.0, q.2)
try_finally_accepted count a (some s b) f q = q
try_finally_accepted count a (Let d ds b) f q = q

pub try_both_accepted : (count : ℕ) (a : Around) (b : Statements) (x : Option ℕ) (c f : Statements) → Keeps count a (TryBoth b x c f) → Keeps count a (try_fold_both b x c f).result
try_both_accepted count a b x c f q = finish_both_accepted count a b x _ f (q.0, q.1, catch_accepted count (inside a) b c q.2, q.3)

-- an empty finalizer changes no ending
passes_on : (e : Ending) → unless_stopped (λ d. end normal thereafter if_normal (end d)) e ≡ end e
unfolding unless_stopped if_normal ◌thereafter◌ end
passes_on normal = refl
passes_on break = refl
passes_on continue = refl
passes_on gone = refl
passes_on spent = refl
passes_on (break_to l) = refl
passes_on (continue_to l) = refl
passes_on (return v) = refl
passes_on (throw v) = refl

finally_nothing : (f : Evaluation) → finally f (end normal) ≡ f
unfolding finally ◌thereafter◌ end
finally_nothing f = λ i k w. passes_on (f k w).ending i (f k w).rounds (f k w).world

nothing_finally : (g : Evaluation) → finally (end normal) g ≡ g
unfolding finally ◌thereafter◌ end unless_stopped ◌then◌
nothing_finally g = then_normal g

module _ (m : Model) where
  body_nothing : scoped m (let_names none) (run_list m none) ≡ end normal
  unfolding scoped run
  body_nothing = refl

  -- the catch of an empty Body never runs
  empty_try : (x : Option ℕ) (c : Statements) (ls : List ℕ) → run m (TryCatch none x c) ls ≡ end normal
  unfolding run scoped catch_by ◌thereafter◌ end
  empty_try x c ls = refl

  catch_any : (b : Statements) (x : Option ℕ) (c d : Statements) (ls : List ℕ) → (fold_catch b c).result ≡ d → run m (TryCatch b x d) ls ≡ run m (TryCatch b x c) ls
  unfolding run
  catch_any none x c d ls q = empty_try x d ls ∙ sym (empty_try x c ls)
  catch_any (some s b) x c d ls q = ap (λ y. run m (TryCatch (some s b) x y) ls) (sym q)
  catch_any (Let e es b) x c d ls q = ap (λ y. run m (TryCatch (Let e es b) x y) ls) (sym q)

  finish_catch_run : (b : Statements) (x : Option ℕ) (c : Statements) (ls : List ℕ) → run m (finish_catch b x c).result ls ≡ run m (TryCatch b x c) ls
  unfolding run
  finish_catch_run none x none ls = sym (empty_try x none ls)
  finish_catch_run none x (some t c) ls = refl
  finish_catch_run none x (Let d ds c) ls = refl
  finish_catch_run (some s b) x c ls = refl
  finish_catch_run (Let d ds b) x c ls = refl

  pub try_catch_run : (b : Statements) (x : Option ℕ) (c : Statements) (ls : List ℕ) → run m (try_fold_catch b x c).result ls ≡ run m (TryCatch b x c) ls
  try_catch_run b x c ls = finish_catch_run b x (fold_catch b c).result ls ∙ catch_any b x c (fold_catch b c).result ls refl

  pub try_finally_run : (b f : Statements) (ls : List ℕ) → run m (try_fold_finally b f).result ls ≡ run m (TryFinally b f) ls
  unfolding run
  try_finally_run none f ls = sym (ap (λ g. finally g (scoped m (let_names f) (run_list m f))) body_nothing ∙ nothing_finally _)
  try_finally_run (some s b) f ls = refl
  try_finally_run (Let d ds b) f ls = refl

  -- a Try with both is a Try with a finalizer around one with a catch
  both_is : (b : Statements) (x : Option ℕ) (c f : Statements) (ls : List ℕ) → run m (TryBoth b x c f) ls ≡ finally (run m (TryCatch b x c) ls) (scoped m (let_names f) (run_list m f))
  unfolding run
  both_is b x c f ls = refl

  both_nothing : (b : Statements) (x : Option ℕ) (c : Statements) (ls : List ℕ) → run m (TryBoth b x c none) ls ≡ run m (TryCatch b x c) ls
  both_nothing b x c ls = both_is b x c none ls ∙ ap (finally (run m (TryCatch b x c) ls)) body_nothing ∙ finally_nothing _

  keep_finalizer_run : (b : Statements) (x : Option ℕ) (c f : Statements) (ls : List ℕ) → run m (keep_finalizer b x c f).result ls ≡ run m (TryBoth b x c f) ls
  unfolding run
  keep_finalizer_run none x none f ls =
      sym (nothing_finally _) ∙ ap (λ g. finally g (scoped m (let_names f) (run_list m f))) (sym (empty_try x none ls)) ∙ sym (both_is none x none f ls)
  keep_finalizer_run none x (some t c) f ls = refl
  keep_finalizer_run none x (Let d ds c) f ls = refl
  keep_finalizer_run (some s b) x c f ls = refl
  keep_finalizer_run (Let d ds b) x c f ls = refl

  finish_both_run : (b : Statements) (x : Option ℕ) (c f : Statements) (ls : List ℕ) → run m (finish_both b x c f).result ls ≡ run m (TryBoth b x c f) ls
  finish_both_run b x c none ls = finish_catch_run b x c ls ∙ sym (both_nothing b x c ls)
  finish_both_run b x c (some t f) ls = keep_finalizer_run b x c (some t f) ls
  finish_both_run b x c (Let d ds f) ls = keep_finalizer_run b x c (Let d ds f) ls

  pub try_both_run : (b : Statements) (x : Option ℕ) (c f : Statements) (ls : List ℕ) → run m (try_fold_both b x c f).result ls ≡ run m (TryBoth b x c f) ls
  try_both_run b x c f ls =
      finish_both_run b x (fold_catch b c).result f ls ∙ both_is b x (fold_catch b c).result f ls
      ∙ ap (λ g. finally g (scoped m (let_names f) (run_list m f))) (catch_any b x c (fold_catch b c).result ls refl) ∙ sym (both_is b x c f ls)
