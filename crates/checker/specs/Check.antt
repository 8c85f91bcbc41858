-- Checking a script, word by word: the first part due is held against the first word, and the word's own
-- parts come before what is still due. The jump and label rules are the early errors of ECMA-262
-- (ContainsDuplicateLabels, ContainsUndefinedBreakTarget, ContainsUndefinedContinueTarget, and where Break
-- and Continue may stand), with its label set and iteration set.
use Rattle.std.specs.Prelude.{ℕ, ◌+◌, ◌-◌, Bool, true, false, cond, not, List, [], ◌∷◌, ◌++◌, Ok, Err, Result, ◌==◌, nat_le, nat_lt}
use Rattle.words.specs.declared.word.Kind.{Kind}
use Rattle.words.specs.declared.word.Kind.TheVariants as kind
use Rattle.words.specs.declared.word.Word.{Word}
use Rattle.grammar.specs.declared.What.{What}
use Rattle.grammar.specs.declared.What.TheVariants.{Body}
use Rattle.grammar.specs.declared.Surroundings.{Surroundings}
use Rattle.grammar.specs.declared.Surroundings.TheVariants.{Same, Nested, LoopBody, SwitchCase, LabelBody}
use Rattle.grammar.specs.declared.Part.{Part}
use Rattle.words.specs.Words.{code}
use Rattle.slices.specs.Among.{among}
use Rattle.grammar.specs.Format.{admits, after, has_depth_lem, allows, parts}
use Rattle.faults.specs.declared.tree.ReaderFault.TheVariants.{WordDue, WordsLeft}
use Rattle.faults.specs.declared.tree.TreeFault.{TreeFault}
use Rattle.faults.specs.declared.tree.TreeFault.TheVariants.{Reader, Format, Depth, Expression, Jump}

-- statements and cases have at most so many statements around them
abbrev pub depth_limit : ℕ
depth_limit = 100

-- what is around a part
pub record Around : Type 0 where
  -- how many statements
  pub depth : ℕ
  -- whether a loop is among them, and whether a loop or a Switch is
  pub in_loop : Bool
  pub in_breakable : Bool
  -- the labels around, outermost first; those set on the statement itself; those set on a loop around
  pub labels : List ℕ
  pub label_set : List ℕ
  pub iteration_set : List ℕ

-- the same thing due so many times
pub record Due : Type 0 where
  pub what : What
  pub times : ℕ
  pub around : Around

abbrev pub Verdict : Type 0
Verdict = Result (Unit {0}) TreeFault

-- the jump and label rules, by kind and number
abbrev pub jumps_well : Kind → ℕ → Around → Bool
jumps_well kind.Unlisted n a = true
jumps_well kind.Empty n a = true
jumps_well kind.Block n a = true
jumps_well kind.Expr n a = true
jumps_well kind.Var n a = true
jumps_well kind.Let n a = true
jumps_well kind.If n a = true
jumps_well kind.For n a = true
jumps_well kind.While n a = true
jumps_well kind.Do n a = true
jumps_well kind.Switch n a = true
jumps_well kind.Label n a = not (among n a.labels)
jumps_well kind.Break n a = a.in_breakable
jumps_well kind.BreakTo n a = among n a.labels
jumps_well kind.Continue n a = a.in_loop
jumps_well kind.ContinueTo n a = among n a.iteration_set
jumps_well kind.Return n a = true
jumps_well kind.Throw n a = true
jumps_well kind.Try n a = true
jumps_well kind.Body n a = true
jumps_well kind.Catch n a = true
jumps_well kind.CatchName n a = true
jumps_well kind.Case n a = true
jumps_well kind.Default n a = true
jumps_well kind.Expression n a = true
jumps_well kind.Sequence n a = true
jumps_well kind.Name n a = true
jumps_well kind.NameInit n a = true

-- an expression below the host's count
abbrev pub is_known : ℕ → Kind → ℕ → Bool
is_known count k n = cond (code k == code kind.Expression) (nat_lt n count) true

abbrev pub not_deep : What → Around → Bool
not_deep what a = cond (has_depth_lem what) (nat_le a.depth depth_limit) true

-- the rules of a word, in the order in which they are tried
abbrev pub judge : ℕ → Due → Word → ℕ → Verdict
judge count d w at =
    cond (cond (admits d.what w.kind) (allows w.kind w.number) false)
    (cond (not_deep d.what d.around)
    (cond (is_known count w.kind w.number)
    (cond (jumps_well w.kind w.number d.around) (Ok tt) (Err (Jump at)))
    (Err (Expression at)))
    (Err (Depth at)))
    (Err (Format at))

-- the labels around the parts of a word: a Label's own are set on its body, a loop's label set joins the iteration set
abbrev pub is_loop : Kind → Bool
is_loop k = cond (nat_le (code kind.For) (code k)) (nat_le (code k) (code kind.Do)) false

abbrev pub is_label_lem : Kind → Bool
is_label_lem k = code k == code kind.Label

abbrev pub with_labels : List ℕ → List ℕ → List ℕ → Around → Around
with_labels labels set iterations a =
    record { depth = a.depth; in_loop = a.in_loop; in_breakable = a.in_breakable; labels = labels; label_set = set; iteration_set = iterations }

abbrev pub within : Word → Around → Around
within w a =
    cond (is_label_lem w.kind) (with_labels (a.labels ++ w.number ∷ []) (a.label_set ++ w.number ∷ []) a.iteration_set a)
    (cond (is_loop w.kind) (with_labels a.labels [] (a.iteration_set ++ a.label_set) a)
    (with_labels a.labels [] a.iteration_set a))

-- what else is around a part
abbrev pub deeper : Bool → Bool → Around → Around
deeper in_loop in_breakable a =
    record { depth = a.depth + 1; in_loop = in_loop; in_breakable = in_breakable; labels = a.labels; label_set = a.label_set; iteration_set = a.iteration_set }

abbrev pub surround : Surroundings → Around → Around
surround Same a = a
surround Nested a = deeper a.in_loop a.in_breakable a
surround LoopBody a = deeper true true a
surround SwitchCase a = deeper a.in_loop true a
surround LabelBody a = deeper a.in_loop a.in_breakable a

-- one more thing due, unless no times
abbrev pub need : Due → List Due → List Due
need d ds = cond (d.times == 0) ds (d ∷ ds)

-- the parts of a word that are due, and the rest of what the word was held against
abbrev pub part_due : Part → Around → Due
part_due p a = record { what = p.what; times = p.times; around = surround p.surroundings a }

abbrev pub rest_due : Due → Word → Due
rest_due d w = record { what = after d.what w.kind; times = d.times - 1; around = d.around }

abbrev pub next : Due → Word → List Due → List Due
next d w ds =
    let a = within w d.around in
    let p = parts w in
    need (part_due p.first a) (need (part_due p.second a) (need (part_due p.third a) (need (part_due p.fourth a) (need (rest_due d w) ds))))

abbrev pub and_then : Verdict → Verdict → Verdict
and_then (Ok x) v = v
and_then (Err f) v = Err f

unfoldable pub check : ℕ → List Due → List Word → ℕ → Verdict
check count [] [] at = Ok tt
check count [] (w ∷ ws) at = Err (Reader (WordsLeft at))
check count (d ∷ ds) [] at = Err (Reader (WordDue at))
check count (d ∷ ds) (w ∷ ws) at = and_then (judge count d w at) (check count (next d w ds) ws (at + 1))

-- a script is one Body, with nothing around it
abbrev pub nowhere : Around
nowhere = record { depth = 0; in_loop = false; in_breakable = false; labels = []; label_set = []; iteration_set = [] }

abbrev pub start : Due
start = record { what = Body; times = 1; around = nowhere }

abbrev pub check_script : ℕ → List Word → Verdict
check_script count ws = check count (start ∷ []) ws 0
