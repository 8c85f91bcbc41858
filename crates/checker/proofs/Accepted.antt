-- An accepted script is the words of a tree that keeps the rules.
use Rattle.std.proofs.Common.{◌≡◌, ℕ, suc, ◌+◌, ◌-◌, ◌<◌, ◌≤◌, Bool, true, false, cond, eqb, leb, ◌⊎◌, List, [], ◌∷◌, ◌++◌, Some, None, Ok, Err, sym, refl, ap, ◌∙◌, subst, ap₂, inl, inr, append_assoc, append-nil, arith, ltb-true, eqb-true, le-leb, leb-true}
use borrow.Author.Tests.{clash, eqb-false}
use Rattle.std.proofs.lemmas.Bool.{cases_eq, cases_lt}
use Rattle.words.specs.declared.word.Kind.{Kind}
use Rattle.words.specs.declared.word.Kind.TheVariants as kind
use Rattle.words.specs.declared.word.Word.{Word}
use Rattle.grammar.specs.declared.What.{What}
use Rattle.grammar.specs.declared.What.TheVariants as what
use Rattle.grammar.specs.declared.Surroundings.TheVariants.{Same}
use Rattle.words.specs.Words.{word, code, kind_of}
use Rattle.words.specs.Words.{from_to}
use Rattle.grammar.specs.Format.{admits, after, allows, parts, part}
use Rattle.words.specs.Tree.{expression, Name, NameInit}
use Rattle.words.specs.Encode.{encode_expression, encode_declarators, encode_list}
use Rattle.words.proofs.Coding.{kind_of_code}
use Rattle.faults.specs.declared.tree.TreeFault.{TreeFault}
use Rattle.checker.specs.Check.{Around, Due, Verdict, jumps_well, is_known, not_deep, judge, within, need, part_due, rest_due, next, and_then, check, check_script, start}
use Rattle.checker.specs.Rules.{Script}
use Rattle.checker.proofs.Items.{by_var, by_let, statement, letting, one_case, joined, words_of, Besides, Read, One}
use Rattle.checker.proofs.Parts.{only, a_list, declarators, a_sequence, after_word, PartsRead, none_read, one_read, two_read}
use Rattle.checker.proofs.Built.{then, then_two, a_statement}

-- the tests that an accepted word passed
pub record Passed (c : ℕ) (x : What) (a : Around) (k : Kind) (n : ℕ) : Type 0 where
  pub stands : admits x k ≡ true
  pub numbered : allows k n ≡ true
  pub shallow : not_deep x a ≡ true
  pub known : is_known c k n ≡ true
  pub jumps : jumps_well k n a ≡ true

passed_all : (p q r s t : Bool) (f g h i : TreeFault) →
    ◌≡◌ {A = Verdict} (cond (cond p q false) (cond r (cond s (cond t (Ok tt) (Err i)) (Err h)) (Err g)) (Err f)) (Ok tt) →
    (p ≡ true) × (q ≡ true) × (r ≡ true) × (s ≡ true) × (t ≡ true)
passed_all true true true true true f g h i e = (refl, refl, refl, refl, refl)
passed_all true true true true false f g h i e = absurd (let z : ◌≡◌ {A = ℕ} 0 1 = cc in omega arith)
passed_all true true true false t f g h i e = absurd (let z : ◌≡◌ {A = ℕ} 0 1 = cc in omega arith)
passed_all true true false s t f g h i e = absurd (let z : ◌≡◌ {A = ℕ} 0 1 = cc in omega arith)
passed_all true false r s t f g h i e = absurd (let z : ◌≡◌ {A = ℕ} 0 1 = cc in omega arith)
passed_all false q r s t f g h i e = absurd (let z : ◌≡◌ {A = ℕ} 0 1 = cc in omega arith)

passed : (c : ℕ) (d : Due) (w : Word) (at : ℕ) → judge c d w at ≡ Ok tt → Passed c d.what d.around w.kind w.number
passed c d w at j =
    let t = passed_all (admits d.what w.kind) (allows w.kind w.number) (not_deep d.what d.around) (is_known c w.kind w.number) (jumps_well w.kind w.number d.around) _ _ _ _ j in
    record { stands = t.0; numbered = t.1; shallow = t.2; known = t.3; jumps = t.4 }

-- which kinds stand in which place
pub data Fits : What → Kind → Type 0 where
  in_list : (k : Kind) → admits what.SingleStatement k ≡ true → Fits what.ListStatement k
  a_let : Fits what.ListStatement kind.Let
  alone : (k : Kind) → admits what.SingleStatement k ≡ true → Fits what.SingleStatement k
  for_var : Fits what.ForDeclaration kind.Var
  for_let : Fits what.ForDeclaration kind.Let
  a_name : Fits what.Declarator kind.Name
  a_name_init : Fits what.Declarator kind.NameInit
  a_parameter : Fits what.CatchParameter kind.Name
  an_expression : Fits what.Expression kind.Expression
  a_sequence_word : Fits what.Expression kind.Sequence
  a_part : Fits what.SequencePart kind.Expression
  a_body : Fits what.Body kind.Body
  a_catch : Fits what.Catch kind.Catch
  a_catch_name : Fits what.Catch kind.CatchName
  a_case : Fits what.Case kind.Case
  a_default : Fits what.Case kind.Default
  a_later_case : Fits what.CaseAfterDefault kind.Case

-- a kind by its number
by_code : {x : What} (k : Kind) (j : ℕ) → code k ≡ j → Fits x (kind_of j) → Fits x k
by_code {x} k j e f = subst (Fits x) (sym (ap kind_of e) ∙ kind_of_code k) f

bounds : (low high k : Kind) → from_to low high k ≡ true → (code low ≤ code k) × (code k ≤ code high)
bounds low high k h = go (leb (code low) (code k)) refl h
  where
    go : (b : Bool) → leb (code low) (code k) ≡ b → cond b (leb (code k) (code high)) false ≡ true → (code low ≤ code k) × (code k ≤ code high)
    go true e h = (leb-true _ _ e, leb-true _ _ h)
    go false e h = absurd (clash h)

one_of_two : {x : What} (k : Kind) (j : ℕ) → j ≤ code k → code k ≤ suc j → Fits x (kind_of j) → Fits x (kind_of (suc j)) → Fits x k
one_of_two {x} k j l m f g = go (cases_eq (code k) j)
  where
    go : (code k ≡ j) ⊎ (code k ≡ j → ⊥) → Fits x k
    go (inl e) = by_code k j e f
    go (inr e) = by_code k (suc j) (omega (arith, e)) g

in_bounds : (low high k : Kind) → code low ≤ code k → code k ≤ code high → from_to low high k ≡ true
in_bounds low high k l m = ap₂ (λ x y. cond x y false) (le-leb (code low) (code k) l) (le-leb (code k) (code high) m)

either_true : (x y : Bool) → (x ≡ true) ⊎ (y ≡ true) → cond x true y ≡ true
either_true true y h = refl
either_true false y (inl h) = absurd (clash h)
either_true false y (inr h) = h

no_let : (k : Kind) → from_to kind.Empty kind.Try k ≡ true → (code k ≡ 5 → ⊥) → admits what.SingleStatement k ≡ true
no_let k h n = either_true (from_to kind.Empty kind.Var k) (from_to kind.If kind.Try k) (go (cases_lt (code k) 5))
  where
    go : (code k < 5) ⊎ (5 ≤ code k) → (from_to kind.Empty kind.Var k ≡ true) ⊎ (from_to kind.If kind.Try k ≡ true)
    go (inl l) = let b = bounds kind.Empty kind.Try k h in let x = b.0 in inl (in_bounds kind.Empty kind.Var k (omega arith) (omega arith))
    go (inr l) = let b = bounds kind.Empty kind.Try k h in let x = b.1 in inr (in_bounds kind.If kind.Try k (omega (arith, n)) (omega arith))

listed_fits : (k : Kind) → admits what.ListStatement k ≡ true → Fits what.ListStatement k
listed_fits k h = go (cases_eq (code k) 5)
  where
    go : (code k ≡ 5) ⊎ (code k ≡ 5 → ⊥) → Fits what.ListStatement k
    go (inl e) = by_code k 5 e a_let
    go (inr e) = in_list k (no_let k h e)

fits : (x : What) (k : Kind) → admits x k ≡ true → Fits x k
fits what.ListStatement k h = listed_fits k h
fits what.SingleStatement k h = alone k h
fits what.ForDeclaration k h = let b = bounds kind.Var kind.Let k h in one_of_two k 4 b.0 b.1 for_var for_let
fits what.Declarator k h = let b = bounds kind.Name kind.NameInit k h in one_of_two k 26 b.0 b.1 a_name a_name_init
fits what.CatchParameter k h = let b = bounds kind.Name kind.Name k h in by_code k 26 (let x = b.0 in let y = b.1 in omega arith) a_parameter
fits what.Expression k h = let b = bounds kind.Expression kind.Sequence k h in one_of_two k 24 b.0 b.1 an_expression a_sequence_word
fits what.SequencePart k h = let b = bounds kind.Expression kind.Expression k h in by_code k 24 (let x = b.0 in let y = b.1 in omega arith) a_part
fits what.Body k h = let b = bounds kind.Body kind.Body k h in by_code k 19 (let x = b.0 in let y = b.1 in omega arith) a_body
fits what.Catch k h = let b = bounds kind.Catch kind.CatchName k h in one_of_two k 20 b.0 b.1 a_catch a_catch_name
fits what.Case k h = let b = bounds kind.Case kind.Default k h in one_of_two k 22 b.0 b.1 a_case a_default
fits what.CaseAfterDefault k h = let b = bounds kind.Case kind.Case k h in by_code k 22 (let x = b.0 in let y = b.1 in omega arith) a_later_case

-- one item, of a word with its parts
unfoldable item_of : {c : ℕ} (a : Around) {x : What} {k : Kind} (n : ℕ) {ws rest : List Word} → Fits x k → Passed c x a k n → PartsRead c (within (word k n) a) (parts (word k n)) ws rest →
    One c x a (word k n ∷ ws) rest
item_of a n (in_list k h) p r =
    let s = a_statement a k n h p.numbered (leb-true _ _ p.shallow) p.jumps r in
    record { item = statement s.item; words = s.words; holds = s.holds }
item_of a n a_let p r =
    let v = declarators (leb-true 1 n p.numbered) r.first in
    record { item = letting v.first v.others; words = after_word kind.Let v.many (then (encode_declarators (v.first ∷ v.others)) v.words (one_read (part what.Declarator n Same) r)); holds = (leb-true _ _ p.shallow, v.known) }
item_of a n (alone k h) p r = a_statement a k n h p.numbered (leb-true _ _ p.shallow) p.jumps r
item_of a n for_var p r =
    let v = declarators (leb-true 1 n p.numbered) r.first in
    record { item = by_var v.first v.others; words = after_word kind.Var v.many (then (encode_declarators (v.first ∷ v.others)) v.words (one_read (part what.Declarator n Same) r)); holds = v.known }
item_of a n for_let p r =
    let v = declarators (leb-true 1 n p.numbered) r.first in
    record { item = by_let v.first v.others; words = after_word kind.Let v.many (then (encode_declarators (v.first ∷ v.others)) v.words (one_read (part what.Declarator n Same) r)); holds = v.known }
item_of a n a_name p r = record { item = Name n; words = after_word kind.Name refl (none_read r); holds = tt }
item_of a n a_name_init p r =
    let e = only r.first in
    record { item = NameInit n e.item; words = after_word kind.NameInit refl (then (encode_expression e.item) e.words (one_read (part what.Expression 1 Same) r)); holds = e.holds }
item_of a n a_parameter p r = record { item = n; words = after_word kind.Name refl (none_read r); holds = tt }
item_of a n an_expression p r = record { item = expression n []; words = after_word kind.Expression refl (none_read r); holds = (ltb-true n _ p.known, tt) }
item_of a n a_sequence_word p r =
    let s = a_sequence (leb-true 2 n p.numbered) r.first in
    record { item = s.item; words = s.words ∙ ap (λ v. encode_expression s.item ++ v) (one_read (part what.SequencePart n Same) r); holds = s.holds }
item_of a n a_part p r = record { item = n; words = after_word kind.Expression refl (none_read r); holds = ltb-true n _ p.known }
item_of a n a_body p r =
    let l = a_list r.first in
    record { item = l.list; words = after_word kind.Body l.many (then (encode_list l.list) l.words (one_read (part what.ListStatement n Same) r)); holds = l.keeps }
item_of a n a_catch p r =
    let l = a_list r.first in
    record { item = record { name = None; list = l.list }; words = after_word kind.Catch l.many (then (encode_list l.list) l.words (one_read (part what.ListStatement n Same) r)); holds = l.keeps }
item_of a n a_catch_name p r =
    let m = only r.first in
    let l = a_list r.second in
    record {
      item = record { name = Some m.item; list = l.list };
      words = after_word kind.CatchName l.many (m.words ∙ ap (λ v. word kind.Name m.item ∷ v) (then (encode_list l.list) l.words (two_read (part what.CatchParameter 1 Same) (part what.ListStatement n Same) r)));
      holds = l.keeps;
    }
item_of a n {ws} {rest} a_case p r =
    let e = only r.first in
    let l = a_list r.second in
    record {
      item = one_case (Some e.item) l.list;
      words = after_word kind.Case l.many (then_two (encode_expression e.item) (encode_list l.list) rest e.words (then (encode_list l.list) l.words (two_read (part what.Expression 1 Same) (part what.ListStatement n Same) r)));
      holds = (leb-true _ _ p.shallow, e.holds, l.keeps);
    }
item_of a n a_default p r =
    let l = a_list r.first in
    record {
      item = one_case None l.list;
      words = after_word kind.Default l.many (then (encode_list l.list) l.words (one_read (part what.ListStatement n Same) r));
      holds = (leb-true _ _ p.shallow, tt, l.keeps);
    }
item_of a n {ws} {rest} a_later_case p r =
    let e = only r.first in
    let l = a_list r.second in
    record {
      item = one_case (Some e.item) l.list;
      words = after_word kind.Case l.many (then_two (encode_expression e.item) (encode_list l.list) rest e.words (then (encode_list l.list) l.words (two_read (part what.Expression 1 Same) (part what.ListStatement n Same) r)));
      holds = (leb-true _ _ p.shallow, e.holds, l.keeps);
    }

cons : {c m : ℕ} {x : What} {a : Around} {u mid rest : List Word} (o : One c x a u mid) (t : Read c x m a mid rest) → Besides x (o.item ∷ t.items) → Read c x (1 + m) a u rest
cons {c} {m} {x} {a} {u} {mid} {rest} o t b = record {
  items = o.item ∷ t.items;
  many = let n = t.many in omega arith;
  words = o.words ∙ ap (λ v. words_of x o.item ++ v) t.words ∙ sym (append_assoc (words_of x o.item) (joined (words_of x) t.items) rest);
  holds = (o.holds, t.holds);
  besides = b;
}

after_same : (x : What) (k : Kind) → admits what.SingleStatement k ≡ true → after x k ≡ x
after_same x k h = go (eqb (code k) 23) refl
  where
    last : (p q : Bool) → p ≡ true → cond p true q ≡ true
    last true q e = refl
    last false q e = absurd (clash e)

    go : (b : Bool) → eqb (code k) 23 ≡ b → cond b what.CaseAfterDefault x ≡ x
    go true e = let f : k ≡ kind.Default = sym (kind_of_code k) ∙ ap kind_of (eqb-true (code k) 23 e) in absurd (clash (ap (admits what.SingleStatement) (sym f) ∙ h))
    go false e = refl

-- an item more
more : {c : ℕ} (a : Around) {x : What} {k : Kind} (n m : ℕ) {ws mid rest : List Word} → Fits x k → Passed c x a k n → PartsRead c (within (word k n) a) (parts (word k n)) ws mid →
    Read c (after x k) m a mid rest → Read c x (1 + m) a (word k n ∷ ws) rest
unfolding item_of
more {c} a n m {ws} {mid} {rest} (in_list k h) p r t = cons (item_of a n (in_list k h) p r) (subst (λ y. Read c y m a mid rest) (after_same what.ListStatement k h) t) tt
more a n m a_let p r t = cons (item_of a n a_let p r) t tt
more {c} a n m {ws} {mid} {rest} (alone k h) p r t = cons (item_of a n (alone k h) p r) (subst (λ y. Read c y m a mid rest) (after_same what.SingleStatement k h) t) tt
more a n m for_var p r t = cons (item_of a n for_var p r) t tt
more a n m for_let p r t = cons (item_of a n for_let p r) t tt
more a n m a_name p r t = cons (item_of a n a_name p r) t tt
more a n m a_name_init p r t = cons (item_of a n a_name_init p r) t tt
more a n m a_parameter p r t = cons (item_of a n a_parameter p r) t tt
more a n m an_expression p r t = cons (item_of a n an_expression p r) t tt
more a n m a_sequence_word p r t = cons (item_of a n a_sequence_word p r) t tt
more a n m a_part p r t = cons (item_of a n a_part p r) t tt
more a n m a_body p r t = cons (item_of a n a_body p r) t tt
more a n m a_catch p r t = cons (item_of a n a_catch p r) t tt
more a n m a_catch_name p r t = cons (item_of a n a_catch_name p r) t tt
more a n m a_case p r t = cons (item_of a n a_case p r) t t.besides
more {c} a n m {ws} {mid} {rest} a_default p r t =
    let o : One c what.Case a (word kind.Default n ∷ ws) mid = item_of a n a_default p r in
    record {
      items = o.item ∷ t.items;
      many = let n = t.many in omega arith;
      words = o.words ∙ ap (λ v. words_of what.Case o.item ++ v) t.words ∙ sym (append_assoc (words_of what.Case o.item) (joined (words_of what.Case) t.items) rest);
      holds = (o.holds, t.holds);
      besides = t.besides;
    }
more a n m a_later_case p r t = cons (item_of a n a_later_case p r) t (tt, t.besides)

read_none : {c : ℕ} (x : What) {a : Around} {ws : List Word} → Read c x 0 a ws ws
read_none what.ListStatement = record { items = []; many = refl; words = refl; holds = tt; besides = tt }
read_none what.SingleStatement = record { items = []; many = refl; words = refl; holds = tt; besides = tt }
read_none what.ForDeclaration = record { items = []; many = refl; words = refl; holds = tt; besides = tt }
read_none what.Declarator = record { items = []; many = refl; words = refl; holds = tt; besides = tt }
read_none what.CatchParameter = record { items = []; many = refl; words = refl; holds = tt; besides = tt }
read_none what.Expression = record { items = []; many = refl; words = refl; holds = tt; besides = tt }
read_none what.SequencePart = record { items = []; many = refl; words = refl; holds = tt; besides = tt }
read_none what.Body = record { items = []; many = refl; words = refl; holds = tt; besides = tt }
read_none what.Catch = record { items = []; many = refl; words = refl; holds = tt; besides = tt }
read_none what.Case = record { items = []; many = refl; words = refl; holds = tt; besides = tt }
read_none what.CaseAfterDefault = record { items = []; many = refl; words = refl; holds = tt; besides = tt }

-- the words are made of what is due
abbrev Reads : ℕ → List Due → List Word → Type 0
Reads c [] ws = ws ≡ []
Reads c (d ∷ ds) ws = (rest : List Word) × Read c d.what d.times d.around ws rest × Reads c ds rest

unneed : (c : ℕ) (d : Due) (ds : List Due) (ws : List Word) → Reads c (need d ds) ws → Reads c (d ∷ ds) ws
unneed c d ds ws h = go (eqb d.times 0) refl h
  where
    go : (b : Bool) → eqb d.times 0 ≡ b → Reads c (cond b ds (d ∷ ds)) ws → Reads c (d ∷ ds) ws
    go true e h = (ws, subst (λ n. Read c d.what n d.around ws ws) (sym (eqb-true d.times 0 e)) (read_none d.what), h)
    go false e h = h

abbrev Counted : List Due → Type 0
Counted [] = Unit {0}
Counted (d ∷ ds) = (0 < d.times) × Counted ds

counted_need : (d : Due) (ds : List Due) → Counted ds → Counted (need d ds)
counted_need d ds h = go (eqb d.times 0) refl
  where
    go : (b : Bool) → eqb d.times 0 ≡ b → Counted (cond b ds (d ∷ ds))
    go true e = h
    go false e = let n = eqb-false d.times 0 e in (omega (arith, n), h)

passed_on : (x v : Verdict) → and_then x v ≡ Ok tt → (x ≡ Ok tt) × (v ≡ Ok tt)
passed_on (Ok x) v h = (refl, h)
passed_on (Err f) v h = (cc, cc)

accepted : (c : ℕ) (ws : List Word) (ds : List Due) (at : ℕ) → Counted ds → check c ds ws at ≡ Ok tt → Reads c ds ws
unfolding check
accepted c [] [] at n h = refl
accepted c [] (d ∷ ds) at n h = absurd (let z : ◌≡◌ {A = ℕ} 0 1 = cc in omega arith)
accepted c (w ∷ ws) [] at n h = absurd (let z : ◌≡◌ {A = ℕ} 0 1 = cc in omega arith)
accepted c (w ∷ ws) (d ∷ ds) at n h =
    let both = passed_on (judge c d w at) _ h in
    let a = within w d.around in
    let p = parts w in
    let r5 = need (rest_due d w) ds in
    let r4 = need (part_due p.fourth a) r5 in
    let r3 = need (part_due p.third a) r4 in
    let r2 = need (part_due p.second a) r3 in
    let i = accepted c ws (next d w ds) (at + 1)
    (counted_need (part_due p.first a) r2 (counted_need (part_due p.second a) r3 (counted_need (part_due p.third a) r4 (counted_need (part_due p.fourth a) r5 (counted_need (rest_due d w) ds n.1))))) both.1 in
    let i1 = unneed c (part_due p.first a) r2 ws i in
    let i2 = unneed c (part_due p.second a) r3 i1.0 i1.2 in
    let i3 = unneed c (part_due p.third a) r4 i2.0 i2.2 in
    let i4 = unneed c (part_due p.fourth a) r5 i3.0 i3.2 in
    let i5 = unneed c (rest_due d w) ds i4.0 i4.2 in
    let t = passed c d w at both.0 in
    let r : PartsRead c a p ws i4.0 = record { two = i1.0; three = i2.0; four = i3.0; first = i1.1; second = i2.1; third = i3.1; fourth = i4.1 } in
    let m = more d.around w.number (d.times - 1) (fits d.what w.kind t.stands) t r i5.1 in
    let g = n.0 in
    (i5.0, subst (λ k. Read c d.what k d.around (w ∷ ws) i5.0) (let e : 1 + (d.times - 1) ≡ d.times = omega arith in e) m, i5.2)

pub accepted_kept : (c : ℕ) (ws : List Word) → check_script c ws ≡ Ok tt → Script c ws
accepted_kept c ws h =
    let r = accepted c ws (start ∷ []) 0 (omega arith, tt) h in
    let b = only r.1 in
    (b.item, b.holds, b.words ∙ ap (λ v. words_of what.Body b.item ++ v) r.2 ∙ append-nil _)
