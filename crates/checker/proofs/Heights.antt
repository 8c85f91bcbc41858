-- How high the frames lie: a stack of 512 frames, one of 102 labels of loops and one of more open labels are never full.
use Rattle.std.proofs.Common.{◌≡◌, ℕ, ◌+◌, ◌*◌, ◌<◌, ◌≤◌, Bool, true, false, cond, eqb, leb, List, [], ◌∷◌, length, refl, arith, leb-true}
use borrow.Author.Tests.{eqb-false}
use Rattle.words.specs.declared.word.Kind.{Kind}
use Rattle.words.specs.declared.word.Kind.TheVariants as kind
use Rattle.grammar.specs.declared.What.{What}
use Rattle.grammar.specs.declared.What.TheVariants.{ListStatement, SingleStatement, ForDeclaration, Declarator, CatchParameter, Expression, SequencePart, Body, Catch, Case, CaseAfterDefault}
use Rattle.grammar.specs.declared.Surroundings.{Surroundings}
use Rattle.grammar.specs.declared.Surroundings.TheVariants.{Same, Nested, LoopBody, SwitchCase, LabelBody}
use Rattle.words.specs.Words.{word, for_expression, for_declaration, for_test, for_update, try_catch, try_finalizer, has}
use Rattle.grammar.specs.Format.{admits, has_depth_lem, parts_of, part}
use Rattle.checker.specs.declared.frame.Spot.{Spot}
use Rattle.checker.specs.declared.frame.Frame.{Frame}
use Rattle.checker.specs.Held.{relabelled, within_spot, part_frame, onto, grown, height, Fits, Sound}

-- what holds of each kind, one by one
Every : (Kind → Bool) → Type 0
Every P = (P kind.Unlisted ≡ true) × (P kind.Empty ≡ true) × (P kind.Block ≡ true) × (P kind.Expr ≡ true) × (P kind.Var ≡ true) × (P kind.Let ≡ true) × (P kind.If ≡ true) × (P kind.For ≡ true) × (P kind.While ≡ true) × (P kind.Do ≡ true) × (P kind.Switch ≡ true) × (P kind.Label ≡ true) × (P kind.Break ≡ true) × (P kind.BreakTo ≡ true) × (P kind.Continue ≡ true) × (P kind.ContinueTo ≡ true) × (P kind.Return ≡ true) × (P kind.Throw ≡ true) × (P kind.Try ≡ true) × (P kind.Body ≡ true) × (P kind.Catch ≡ true) × (P kind.CatchName ≡ true) × (P kind.Case ≡ true) × (P kind.Default ≡ true) × (P kind.Expression ≡ true) × (P kind.Sequence ≡ true) × (P kind.Name ≡ true) × (P kind.NameInit ≡ true)

every : (P : Kind → Bool) → Every P → (k : Kind) → P k ≡ true
unfolding Every
every P t kind.Unlisted = t.0
every P t kind.Empty = t.1
every P t kind.Block = t.2
every P t kind.Expr = t.3
every P t kind.Var = t.4
every P t kind.Let = t.5
every P t kind.If = t.6
every P t kind.For = t.7
every P t kind.While = t.8
every P t kind.Do = t.9
every P t kind.Switch = t.10
every P t kind.Label = t.11
every P t kind.Break = t.12
every P t kind.BreakTo = t.13
every P t kind.Continue = t.14
every P t kind.ContinueTo = t.15
every P t kind.Return = t.16
every P t kind.Throw = t.17
every P t kind.Try = t.18
every P t kind.Body = t.19
every P t kind.Catch = t.20
every P t kind.CatchName = t.21
every P t kind.Case = t.22
every P t kind.Default = t.23
every P t kind.Expression = t.24
every P t kind.Sequence = t.25
every P t kind.Name = t.26
every P t kind.NameInit = t.27

-- the height of the places where a kind stands
abbrev pub least : Kind → ℕ
least kind.Unlisted = 1
least kind.Empty = 1
least kind.Block = 1
least kind.Expr = 1
least kind.Var = 4
least kind.Let = 4
least kind.If = 1
least kind.For = 1
least kind.While = 1
least kind.Do = 1
least kind.Switch = 1
least kind.Label = 1
least kind.Break = 1
least kind.BreakTo = 1
least kind.Continue = 1
least kind.ContinueTo = 1
least kind.Return = 1
least kind.Throw = 1
least kind.Try = 1
least kind.Body = 0
least kind.Catch = 0
least kind.CatchName = 0
least kind.Case = 0
least kind.Default = 0
least kind.Expression = 7
least kind.Sequence = 6
least kind.Name = 7
least kind.NameInit = 5

-- the kinds that have parts with a depth of their own
abbrev pub inner : Kind → Bool
inner kind.Unlisted = true
inner kind.Empty = true
inner kind.Block = true
inner kind.Expr = true
inner kind.Var = false
inner kind.Let = false
inner kind.If = true
inner kind.For = true
inner kind.While = true
inner kind.Do = true
inner kind.Switch = true
inner kind.Label = true
inner kind.Break = true
inner kind.BreakTo = true
inner kind.Continue = true
inner kind.ContinueTo = true
inner kind.Return = true
inner kind.Throw = true
inner kind.Try = true
inner kind.Body = false
inner kind.Catch = false
inner kind.CatchName = false
inner kind.Case = false
inner kind.Default = false
inner kind.Expression = false
inner kind.Sequence = false
inner kind.Name = false
inner kind.NameInit = false

abbrev placed_well : What → Kind → Bool
placed_well x k = cond (admits x k) (cond (leb (height x) (least k)) (cond (inner k) (has_depth_lem x) true) false) true

well : (x : What) (k : Kind) → placed_well x k ≡ true
unfolding Every
well ListStatement k = every (placed_well ListStatement) (refl, refl, refl, refl, refl, refl, refl, refl, refl, refl, refl, refl, refl, refl, refl, refl, refl, refl, refl, refl, refl, refl, refl, refl, refl, refl, refl, refl) k
well SingleStatement k = every (placed_well SingleStatement) (refl, refl, refl, refl, refl, refl, refl, refl, refl, refl, refl, refl, refl, refl, refl, refl, refl, refl, refl, refl, refl, refl, refl, refl, refl, refl, refl, refl) k
well ForDeclaration k = every (placed_well ForDeclaration) (refl, refl, refl, refl, refl, refl, refl, refl, refl, refl, refl, refl, refl, refl, refl, refl, refl, refl, refl, refl, refl, refl, refl, refl, refl, refl, refl, refl) k
well Declarator k = every (placed_well Declarator) (refl, refl, refl, refl, refl, refl, refl, refl, refl, refl, refl, refl, refl, refl, refl, refl, refl, refl, refl, refl, refl, refl, refl, refl, refl, refl, refl, refl) k
well CatchParameter k = every (placed_well CatchParameter) (refl, refl, refl, refl, refl, refl, refl, refl, refl, refl, refl, refl, refl, refl, refl, refl, refl, refl, refl, refl, refl, refl, refl, refl, refl, refl, refl, refl) k
well Expression k = every (placed_well Expression) (refl, refl, refl, refl, refl, refl, refl, refl, refl, refl, refl, refl, refl, refl, refl, refl, refl, refl, refl, refl, refl, refl, refl, refl, refl, refl, refl, refl) k
well SequencePart k = every (placed_well SequencePart) (refl, refl, refl, refl, refl, refl, refl, refl, refl, refl, refl, refl, refl, refl, refl, refl, refl, refl, refl, refl, refl, refl, refl, refl, refl, refl, refl, refl) k
well Body k = every (placed_well Body) (refl, refl, refl, refl, refl, refl, refl, refl, refl, refl, refl, refl, refl, refl, refl, refl, refl, refl, refl, refl, refl, refl, refl, refl, refl, refl, refl, refl) k
well Catch k = every (placed_well Catch) (refl, refl, refl, refl, refl, refl, refl, refl, refl, refl, refl, refl, refl, refl, refl, refl, refl, refl, refl, refl, refl, refl, refl, refl, refl, refl, refl, refl) k
well Case k = every (placed_well Case) (refl, refl, refl, refl, refl, refl, refl, refl, refl, refl, refl, refl, refl, refl, refl, refl, refl, refl, refl, refl, refl, refl, refl, refl, refl, refl, refl, refl) k
well CaseAfterDefault k = every (placed_well CaseAfterDefault) (refl, refl, refl, refl, refl, refl, refl, refl, refl, refl, refl, refl, refl, refl, refl, refl, refl, refl, refl, refl, refl, refl, refl, refl, refl, refl, refl, refl) k

both : (a b : Bool) → cond a b false ≡ true → (a ≡ true) × (b ≡ true)
both true b h = (refl, h)
both false b h = absurd (let z : ◌≡◌ {A = ℕ} 0 1 = cc in omega arith)

when : (a b : Bool) → cond a b true ≡ true → a ≡ true → b ≡ true
when true b h e = h
when false b h e = absurd (let z : ◌≡◌ {A = ℕ} 0 1 = cc in omega arith)

pub height_least : (x : What) (k : Kind) → admits x k ≡ true → height x ≤ least k
height_least x k h = leb-true _ _ (both _ _ (when _ _ (well x k) h)).0

pub inner_deep : (x : What) (k : Kind) → admits x k ≡ true → inner k ≡ true → has_depth_lem x ≡ true
inner_deep x k h i = when _ _ (both _ _ (when _ _ (well x k) h)).1 i

pub sound_more : (fs : List Frame) (m n m' n' : ℕ) → m ≤ m' → n ≤ n' → Sound m n fs → Sound m' n' fs
sound_more [] m n m' n' h i s = tt
sound_more (f ∷ fs) m n m' n' h i s = (let a = s.0 in omega arith, let a = s.1 in omega arith, s.2, s.3)

pub sound_onto : (f : Frame) (fs : List Frame) (m n : ℕ) → Sound f.spot.labels f.spot.iterations fs → f.spot.labels ≤ m → f.spot.iterations ≤ n →
    (0 < f.times → Fits f (length fs)) → Sound m n (onto f fs)
sound_onto f fs m n s h i p = go (eqb f.times 0) refl
  where
    go : (b : Bool) → eqb f.times 0 ≡ b → Sound m n (cond b fs (f ∷ fs))
    go true e = sound_more fs f.spot.labels f.spot.iterations m n h i s
    go false e = let z = eqb-false f.times 0 e in (h, i, p (omega (arith, z)), s)

pub length_onto : (f : Frame) (fs : List Frame) → length (onto f fs) ≤ length fs + 1
length_onto f fs = go (eqb f.times 0)
  where
    go : (b : Bool) → length (cond b fs (f ∷ fs)) ≤ length fs + 1
    go true = omega arith
    go false = omega arith

-- frames under the parts of a word, so high
pub record Up (s : Spot) (fs : List Frame) (j : ℕ) : Type 0 where
  pub sound : Sound s.labels s.iterations fs
  pub set : s.iterations + s.set ≤ s.labels
  pub labels : s.labels ≤ s.depth
  pub depth : s.depth ≤ 101
  pub under : length fs ≤ 4 * s.depth + j

-- a part may come on top there
abbrev lower : Surroundings → What → ℕ → Bool
lower Same x j = leb j (height x)
lower Nested x j = leb j (4 + height x)
lower LoopBody x j = leb j (4 + height x)
lower SwitchCase x j = leb j (4 + height x)
lower LabelBody x j = leb j (4 + height x)

abbrev near : Surroundings → ℕ
near Same = 101
near Nested = 100
near LoopBody = 100
near SwitchCase = 100
near LabelBody = 100

up : (x : What) (t : ℕ) (q : Surroundings) {s : Spot} {fs : List Frame} {j : ℕ} → Up s fs j → s.depth ≤ near q → lower q x j ≡ true →
    Up s (onto (part_frame (part x t q) s) fs) (j + 1)
up x t Same {s} {fs} {j} u d l =
    let b = leb-true _ _ l in
    let n = length_onto (part_frame (part x t Same) s) fs in
    record {
      sound = sound_onto _ fs _ _ u.sound (omega arith) (omega arith) (λ p. record { some = p; set = omega arith; labels = omega arith; depth = omega arith; under = omega arith });
      set = u.set;
      labels = u.labels;
      depth = u.depth;
      under = omega arith;
    }
up x t Nested {s} {fs} {j} u d l =
    let b = leb-true _ _ l in
    let n = length_onto (part_frame (part x t Nested) s) fs in
    record {
      sound = sound_onto _ fs _ _ u.sound (omega arith) (omega arith) (λ p. record { some = p; set = omega arith; labels = omega arith; depth = omega arith; under = omega arith });
      set = u.set;
      labels = u.labels;
      depth = u.depth;
      under = omega arith;
    }
up x t LoopBody {s} {fs} {j} u d l =
    let b = leb-true _ _ l in
    let n = length_onto (part_frame (part x t LoopBody) s) fs in
    record {
      sound = sound_onto _ fs _ _ u.sound (omega arith) (omega arith) (λ p. record { some = p; set = omega arith; labels = omega arith; depth = omega arith; under = omega arith });
      set = u.set;
      labels = u.labels;
      depth = u.depth;
      under = omega arith;
    }
up x t SwitchCase {s} {fs} {j} u d l =
    let b = leb-true _ _ l in
    let n = length_onto (part_frame (part x t SwitchCase) s) fs in
    record {
      sound = sound_onto _ fs _ _ u.sound (omega arith) (omega arith) (λ p. record { some = p; set = omega arith; labels = omega arith; depth = omega arith; under = omega arith });
      set = u.set;
      labels = u.labels;
      depth = u.depth;
      under = omega arith;
    }
up x t LabelBody {s} {fs} {j} u d l =
    let b = leb-true _ _ l in
    let n = length_onto (part_frame (part x t LabelBody) s) fs in
    record {
      sound = sound_onto _ fs _ _ u.sound (omega arith) (omega arith) (λ p. record { some = p; set = omega arith; labels = omega arith; depth = omega arith; under = omega arith });
      set = u.set;
      labels = u.labels;
      depth = u.depth;
      under = omega arith;
    }

-- the labels of the parts of a word that is no Label
plain : {s : Spot} {fs : List Frame} {j : ℕ} → Up s fs j → Up (relabelled s.labels 0 s.iterations s) fs j
plain u = record { sound = u.sound; set = let a = u.set in omega arith; labels = u.labels; depth = u.depth; under = u.under }

in_loop : {s : Spot} {fs : List Frame} {j : ℕ} → Up s fs j → Up (relabelled s.labels 0 (s.iterations + s.set) s) fs j
in_loop {s} {fs} u = record {
  sound = sound_more fs _ _ _ _ (omega arith) (omega arith) u.sound;
  set = let a = u.set in omega arith;
  labels = u.labels;
  depth = u.depth;
  under = u.under;
}

pub grown_sound : (k : Kind) (n : ℕ) (s : Spot) (fs : List Frame) → Up s fs (least k + 1) → (inner k ≡ true → s.depth ≤ 100) →
    Sound (within_spot (word k n) s).labels (within_spot (word k n) s).iterations (grown (parts_of k n) (within_spot (word k n) s) fs)
grown_sound kind.Unlisted n s fs u d = (plain u).sound
grown_sound kind.Empty n s fs u d = (plain u).sound
grown_sound kind.Block n s fs u d = (up ListStatement n Nested (plain u) (d refl) refl).sound
grown_sound kind.Expr n s fs u d = (up Expression 1 Same (plain u) u.depth refl).sound
grown_sound kind.Var n s fs u d = (up Declarator n Same (plain u) u.depth refl).sound
grown_sound kind.Let n s fs u d = (up Declarator n Same (plain u) u.depth refl).sound
grown_sound kind.If n s fs u d = (up Expression 1 Same (up SingleStatement 1 Nested (up SingleStatement n Nested (plain u) (d refl) refl) (d refl) refl) u.depth refl).sound
grown_sound kind.For n s fs u d = (up Expression (has for_expression n) Same (up ForDeclaration (has for_declaration n) Same (up Expression (has for_test n + has for_update n) Same (up SingleStatement 1 LoopBody (in_loop u) (d refl) refl) u.depth refl) u.depth refl) u.depth refl).sound
grown_sound kind.While n s fs u d = (up Expression 1 Same (up SingleStatement 1 LoopBody (in_loop u) (d refl) refl) u.depth refl).sound
grown_sound kind.Do n s fs u d = (up SingleStatement 1 LoopBody (up Expression 1 Same (in_loop u) u.depth refl) (d refl) refl).sound
grown_sound kind.Switch n s fs u d = (up Expression 1 Same (up Case n SwitchCase (plain u) (d refl) refl) u.depth refl).sound
grown_sound kind.Label n s fs u d =
    let e = d refl in
    let set = u.set in
    sound_onto (part_frame (part SingleStatement 1 LabelBody) (within_spot (word kind.Label n) s)) fs (s.labels + 1) s.iterations
    (sound_more fs _ _ _ _ (omega arith) (omega arith) u.sound) (omega arith) (omega arith)
    (λ p. record { some = p; set = omega arith; labels = omega arith; depth = omega arith; under = omega arith })
grown_sound kind.Break n s fs u d = (plain u).sound
grown_sound kind.BreakTo n s fs u d = (plain u).sound
grown_sound kind.Continue n s fs u d = (plain u).sound
grown_sound kind.ContinueTo n s fs u d = (plain u).sound
grown_sound kind.Return n s fs u d = (up Expression n Same (plain u) u.depth refl).sound
grown_sound kind.Throw n s fs u d = (up Expression 1 Same (plain u) u.depth refl).sound
grown_sound kind.Try n s fs u d = (up Body 1 Nested (up Catch (has try_catch n) Nested (up Body (has try_finalizer n) Nested (plain u) (d refl) refl) (d refl) refl) (d refl) refl).sound
grown_sound kind.Body n s fs u d = (up ListStatement n Same (plain u) u.depth refl).sound
grown_sound kind.Catch n s fs u d = (up ListStatement n Same (plain u) u.depth refl).sound
grown_sound kind.CatchName n s fs u d = (up CatchParameter 1 Same (up ListStatement n Same (plain u) u.depth refl) u.depth refl).sound
grown_sound kind.Case n s fs u d = (up Expression 1 Same (up ListStatement n Same (plain u) u.depth refl) u.depth refl).sound
grown_sound kind.Default n s fs u d = (up ListStatement n Same (plain u) u.depth refl).sound
grown_sound kind.Expression n s fs u d = (plain u).sound
grown_sound kind.Sequence n s fs u d = (up SequencePart n Same (plain u) u.depth refl).sound
grown_sound kind.Name n s fs u d = (plain u).sound
grown_sound kind.NameInit n s fs u d = (up Expression 1 Same (plain u) u.depth refl).sound
