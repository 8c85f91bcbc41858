-- How the code's frames, open labels and labels of loops stand for what is due. Inner: no public contract
-- rests on these but for the bound on the stacks.
use Rattle.std.specs.Prelude.{◌≡◌, ℕ, ◌+◌, ◌-◌, ◌*◌, ◌<◌, ◌≤◌, Bool, true, cond, List, [], ◌∷◌, ◌++◌, map, reverse, length, take, drop, ◌==◌}
use Rattle.bounded.specs.declared.stack.Stack.{Stack}
use Rattle.bounded.specs.Stack.{held}
use Rattle.words.specs.declared.word.Word.{Word}
use Rattle.grammar.specs.declared.What.{What}
use Rattle.grammar.specs.declared.What.TheVariants.{ListStatement, SingleStatement, ForDeclaration, Declarator, CatchParameter, Expression, SequencePart, Body, Catch, Case, CaseAfterDefault}
use Rattle.grammar.specs.declared.Surroundings.{Surroundings}
use Rattle.grammar.specs.declared.Surroundings.TheVariants.{Same, Nested, LoopBody, SwitchCase, LabelBody}
use Rattle.grammar.specs.declared.Part.{Part}
use Rattle.grammar.specs.declared.Parts.{Parts}
use Rattle.grammar.specs.Format.{after, parts}
use Rattle.checker.specs.declared.frame.Spot.{Spot}
use Rattle.checker.specs.declared.frame.Frame.{Frame}
use Rattle.checker.specs.Check.{Around, Due, Verdict, is_label_lem, is_loop, check}

-- the labels set on the statement itself, of those open there
abbrev pub set_of : Spot → List ℕ → List ℕ
set_of s os = drop (s.labels - s.set) os

-- with these labels open, and these on loops around
abbrev pub around_in : List ℕ → List ℕ → Spot → Around
around_in os ls s =
    record { depth = s.depth; in_loop = s.looping; in_breakable = s.breakable; labels = os; label_set = set_of s os; iteration_set = ls }

abbrev pub due_in : List ℕ → List ℕ → Frame → Due
due_in os ls f = record { what = f.what; times = f.times; around = around_in os ls f.spot }

-- with the first of these
abbrev pub due_of : List ℕ → List ℕ → Frame → Due
due_of os ls f = due_in (take f.spot.labels os) (take f.spot.iterations ls) f

abbrev pub dues : List ℕ → List ℕ → List Frame → List Due
dues os ls fs = map (due_of os ls) fs

-- what is around the parts of a word
abbrev pub relabelled : ℕ → ℕ → ℕ → Spot → Spot
relabelled labels set iterations s =
    record { depth = s.depth; looping = s.looping; breakable = s.breakable; labels = labels; set = set; iterations = iterations }

abbrev pub within_spot : Word → Spot → Spot
within_spot w s =
    cond (is_label_lem w.kind) (relabelled (s.labels + 1) (s.set + 1) s.iterations s)
    (cond (is_loop w.kind) (relabelled s.labels 0 (s.iterations + s.set) s)
    (relabelled s.labels 0 s.iterations s))

abbrev pub deeper_spot : Bool → Bool → Spot → Spot
deeper_spot looping breakable s =
    record { depth = s.depth + 1; looping = looping; breakable = breakable; labels = s.labels; set = s.set; iterations = s.iterations }

abbrev pub placed : Surroundings → Spot → Spot
placed Same s = s
placed Nested s = deeper_spot s.looping s.breakable s
placed LoopBody s = deeper_spot true true s
placed SwitchCase s = deeper_spot s.looping true s
placed LabelBody s = deeper_spot s.looping s.breakable s

abbrev pub onto : Frame → List Frame → List Frame
onto f fs = cond (f.times == 0) fs (f ∷ fs)

abbrev pub part_frame : Part → Spot → Frame
part_frame p s = record { what = p.what; times = p.times; spot = placed p.surroundings s }

abbrev pub rest_frame : Frame → Word → Frame
rest_frame f w = record { what = after f.what w.kind; times = f.times - 1; spot = f.spot }

abbrev pub grown : Parts → Spot → List Frame → List Frame
grown p s fs = onto (part_frame p.first s) (onto (part_frame p.second s) (onto (part_frame p.third s) (onto (part_frame p.fourth s) fs)))

-- the frames, the open labels and the labels of loops after a word
abbrev pub risen : Frame → Word → List Frame → List Frame
risen f w fs = grown (parts w) (within_spot w f.spot) (onto (rest_frame f w) fs)

abbrev pub opened : Word → List ℕ → List ℕ
opened w os = cond (is_label_lem w.kind) (os ++ w.number ∷ []) os

abbrev pub looped : Frame → Word → List ℕ → List ℕ → List ℕ
looped f w os ls = cond (is_label_lem w.kind) ls (cond (is_loop w.kind) (ls ++ set_of f.spot os) ls)

-- how many frames may lie under one, above four for each statement around
abbrev pub height : What → ℕ
height ListStatement = 1
height SingleStatement = 1
height ForDeclaration = 4
height Declarator = 5
height CatchParameter = 7
height Expression = 6
height SequencePart = 7
height Body = 0
height Catch = 0
height Case = 0
height CaseAfterDefault = 0

pub record Fits (f : Frame) (n : ℕ) : Type 0 where
  pub some : 0 < f.times
  pub set : f.spot.iterations + f.spot.set ≤ f.spot.labels
  pub labels : f.spot.labels ≤ f.spot.depth
  pub depth : f.spot.depth ≤ 101
  pub under : n ≤ 4 * f.spot.depth + height f.what

-- frames, topmost first, under one with so many open labels and labels of loops
abbrev pub Sound : ℕ → ℕ → List Frame → Type 0
Sound m n [] = Unit {0}
Sound m n (f ∷ fs) = (f.spot.labels ≤ m) × (f.spot.iterations ≤ n) × Fits f (length fs) × Sound f.spot.labels f.spot.iterations fs

-- the frames of a stack, topmost first
abbrev pub frames_of : Stack Frame → List Frame
frames_of s = reverse (held s)

-- the frames stand for what is left of a check with this verdict
pub record Left (count : ℕ) (fs : List Frame) (os : List ℕ) (ls : List ℕ) (ws : List Word) (at : ℕ) (v : Verdict) : Type 0 where
  pub sound : Sound (length os) (length ls) fs
  pub same : check count (dues os ls fs) ws at ≡ v
