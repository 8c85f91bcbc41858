-- A word and its parts are one item of the tree: by the word's kind, in whatever place admits it.
use Rattle.std.proofs.Common.{◌≡◌, ℕ, zero, suc, ◌+◌, ◌*◌, ◌≤◌, Bool, true, false, cond, not, leb, List, ◌∷◌, ◌++◌, sym, refl, ap, ◌∙◌, ap₂, append_assoc, arith, eqb-true, leb-true}
use borrow.Author.Tests.{clash}
use Rattle.words.specs.declared.word.Kind.{Kind}
use Rattle.words.specs.declared.word.Kind.TheVariants as kind
use Rattle.words.specs.declared.word.Word.{Word}
use Rattle.grammar.specs.declared.What.TheVariants as what
use Rattle.grammar.specs.declared.Surroundings.TheVariants.{Same, Nested, LoopBody, SwitchCase, LabelBody}
use Rattle.words.specs.Words.{word, has, for_expression, for_declaration, for_test, for_update}
use Rattle.grammar.specs.Format.{admits, allows, parts, part}
use Rattle.words.specs.Tree.{Empty, Break, Continue, Block, Expr, Throw, Var, If, IfElse, For, While, Do, Switch, Label, BreakTo, ContinueTo, Return, TryCatch, TryFinally, TryBoth}
use Rattle.words.specs.Encode.{encode_expression, encode_optional, encode_declarators, encode_start, encode, encode_list, encode_cases, encode_body, encode_catch, for_number}
use Rattle.checker.specs.Check.{Around, jumps_well, within}
use Rattle.slices.specs.Among.{among}
use Rattle.checker.specs.Rules.{NotDeep}
use Rattle.checker.proofs.Items.{One}
use Rattle.checker.proofs.Parts.{nothing, only, a_list, the_cases, declarators, optional, tail, a_start, after_word, PartsRead, none_read, one_read, two_read}

first_both : (x y : Bool) → cond x y false ≡ true → x ≡ true
first_both true y h = refl
first_both false y h = absurd (clash h)

-- the word and parts of a For
for_digits : (n : ℕ) → cond (leb n 15) (leb (has for_expression n + has for_declaration n) 1) false ≡ true →
    (has for_expression n + has for_declaration n ≤ 1) × (has for_expression n + 2 * has for_declaration n + (4 * has for_test n + 8 * has for_update n) ≡ n)
for_digits zero h = (leb-true _ 1 h, refl)
for_digits (suc zero) h = (leb-true _ 1 h, refl)
for_digits (suc (suc zero)) h = (leb-true _ 1 h, refl)
for_digits (suc (suc (suc zero))) h = absurd (clash h)
for_digits (suc (suc (suc (suc zero)))) h = (leb-true _ 1 h, refl)
for_digits (suc (suc (suc (suc (suc zero))))) h = (leb-true _ 1 h, refl)
for_digits (suc (suc (suc (suc (suc (suc zero)))))) h = (leb-true _ 1 h, refl)
for_digits (suc (suc (suc (suc (suc (suc (suc zero))))))) h = absurd (clash h)
for_digits (suc (suc (suc (suc (suc (suc (suc (suc zero)))))))) h = (leb-true _ 1 h, refl)
for_digits (suc (suc (suc (suc (suc (suc (suc (suc (suc zero))))))))) h = (leb-true _ 1 h, refl)
for_digits (suc (suc (suc (suc (suc (suc (suc (suc (suc (suc zero)))))))))) h = (leb-true _ 1 h, refl)
for_digits (suc (suc (suc (suc (suc (suc (suc (suc (suc (suc (suc zero))))))))))) h = absurd (clash h)
for_digits (suc (suc (suc (suc (suc (suc (suc (suc (suc (suc (suc (suc zero)))))))))))) h = (leb-true _ 1 h, refl)
for_digits (suc (suc (suc (suc (suc (suc (suc (suc (suc (suc (suc (suc (suc zero))))))))))))) h = (leb-true _ 1 h, refl)
for_digits (suc (suc (suc (suc (suc (suc (suc (suc (suc (suc (suc (suc (suc (suc zero)))))))))))))) h = (leb-true _ 1 h, refl)
for_digits (suc (suc (suc (suc (suc (suc (suc (suc (suc (suc (suc (suc (suc (suc (suc zero))))))))))))))) h = absurd (clash h)
for_digits (suc (suc (suc (suc (suc (suc (suc (suc (suc (suc (suc (suc (suc (suc (suc (suc n)))))))))))))))) h = absurd (let l = leb-true (suc (suc (suc (suc (suc (suc (suc (suc (suc (suc (suc (suc (suc (suc (suc (suc n)))))))))))))))) 15 (first_both _ _ h) in omega arith)

within_both : (x y : Bool) → cond x y false ≡ true → y ≡ true
within_both true y h = h
within_both false y h = absurd (clash h)

-- one of a, then what follows it
pub then : (xs : List Word) {us vs ws : List Word} → us ≡ xs ++ vs → vs ≡ ws → us ≡ xs ++ ws
then xs e f = e ∙ ap (λ v. xs ++ v) f

pub then_two : (xs ys ws : List Word) {us vs : List Word} → us ≡ xs ++ vs → vs ≡ ys ++ ws → us ≡ (xs ++ ys) ++ ws
then_two xs ys ws e f = e ∙ ap (λ v. xs ++ v) f ∙ sym (append_assoc xs ys ws)

then_three : (xs ys zs rs : List Word) {us vs ws : List Word} → us ≡ xs ++ vs → vs ≡ ys ++ ws → ws ≡ zs ++ rs → us ≡ (xs ++ (ys ++ zs)) ++ rs
then_three xs ys zs rs e f g = then_two xs (ys ++ zs) rs e (then_two ys zs rs f g)

of_for : {c : ℕ} (a : Around) (n : ℕ) {ws rest : List Word} → allows kind.For n ≡ true → NotDeep a → PartsRead c (within (word kind.For n) a) (parts (word kind.For n)) ws rest →
    One c what.SingleStatement a (word kind.For n ∷ ws) rest
of_for a n {ws} {rest} m d p =
    let g = for_digits n m in
    let i = a_start (has for_expression n) (has for_declaration n) g.0 p.first p.second in
    let t = tail (has for_test n) (has for_update n) (omega arith) (omega arith) p.third in
    let b = only p.fourth in
    let number : n ≡ for_number i.begin t.test t.update = sym (ap₂ (λ x y. x + y) i.many t.many ∙ g.1) in
    let xs = encode_optional t.test in
    let ys = encode_optional t.update in
    let zs = encode b.item in
    record {
      item = For i.begin t.test t.update b.item;
      words = after_word kind.For number (then_two (encode_start i.begin) (xs ++ (ys ++ zs)) rest i.words (t.words ∙ ap (λ v. xs ++ (ys ++ v)) b.words ∙ (let h : xs ++ (ys ++ (zs ++ rest)) ≡ (xs ++ (ys ++ zs)) ++ rest = sym (simp append_assoc) in h)));
      holds = (d, i.known, t.test_known, t.update_known, b.holds);
    }

of_try : {c : ℕ} (a : Around) (n : ℕ) {ws rest : List Word} → allows kind.Try n ≡ true → NotDeep a → PartsRead c (within (word kind.Try n) a) (parts (word kind.Try n)) ws rest →
    One c what.SingleStatement a (word kind.Try n ∷ ws) rest
of_try a zero {ws} {rest} m d p = absurd (clash m)
of_try a (suc zero) {ws} {rest} m d p =
    let b = only p.first in
    let h = only p.second in
    record {
      item = TryCatch b.item h.item.name h.item.list;
      words = after_word kind.Try refl (then_two (encode_body b.item) (encode_catch h.item.name h.item.list) rest b.words (then (encode_catch h.item.name h.item.list) h.words (nothing p.third ∙ nothing p.fourth)));
      holds = (d, b.holds, h.holds);
    }
of_try a (suc (suc zero)) {ws} {rest} m d p =
    let b = only p.first in
    let f = only p.third in
    record {
      item = TryFinally b.item f.item;
      words = after_word kind.Try refl (then_two (encode_body b.item) (encode_body f.item) rest b.words (nothing p.second ∙ then (encode_body f.item) f.words (nothing p.fourth)));
      holds = (d, b.holds, f.holds);
    }
of_try a (suc (suc (suc zero))) {ws} {rest} m d p =
    let b = only p.first in
    let h = only p.second in
    let f = only p.third in
    record {
      item = TryBoth b.item h.item.name h.item.list f.item;
      words = after_word kind.Try refl (then_three (encode_body b.item) (encode_catch h.item.name h.item.list) (encode_body f.item) rest b.words h.words (then (encode_body f.item) f.words (nothing p.fourth)));
      holds = (d, b.holds, h.holds, f.holds);
    }
of_try a (suc (suc (suc (suc n)))) {ws} {rest} m d p = absurd (let l = leb-true (suc (suc (suc (suc n)))) 3 (within_both _ _ m) in omega arith)

of_if : {c : ℕ} (a : Around) (n : ℕ) {ws rest : List Word} → allows kind.If n ≡ true → NotDeep a → PartsRead c (within (word kind.If n) a) (parts (word kind.If n)) ws rest →
    One c what.SingleStatement a (word kind.If n ∷ ws) rest
of_if a zero {ws} {rest} m d p =
    let e = only p.first in
    let s = only p.second in
    record { item = If e.item s.item; words = after_word kind.If refl (then_two (encode_expression e.item) (encode s.item) rest e.words (then (encode s.item) s.words (nothing p.third ∙ nothing p.fourth))); holds = (d, e.holds, s.holds) }
of_if a (suc zero) {ws} {rest} m d p =
    let e = only p.first in
    let s = only p.second in
    let t = only p.third in
    record {
      item = IfElse e.item s.item t.item;
      words = after_word kind.If refl (then_three (encode_expression e.item) (encode s.item) (encode t.item) rest e.words s.words (then (encode t.item) t.words (nothing p.fourth)));
      holds = (d, e.holds, s.holds, t.holds);
    }
of_if a (suc (suc n)) {ws} {rest} m d p = absurd (let l = leb-true (suc (suc n)) 1 m in omega arith)

not_set : (b : Bool) → not b ≡ true → b ≡ false
not_set true h = absurd (clash h)
not_set false h = refl

-- a statement that stands alone
pub a_statement : {c : ℕ} (a : Around) (k : Kind) (n : ℕ) {ws rest : List Word} → admits what.SingleStatement k ≡ true → allows k n ≡ true → NotDeep a → jumps_well k n a ≡ true →
    PartsRead c (within (word k n) a) (parts (word k n)) ws rest → One c what.SingleStatement a (word k n ∷ ws) rest
a_statement a kind.Unlisted n {ws} {rest} h m d j p = absurd (clash h)
a_statement a kind.Empty n {ws} {rest} h m d j p = record { item = Empty; words = after_word kind.Empty (eqb-true n 0 m) (none_read p); holds = d }
a_statement a kind.Block n {ws} {rest} h m d j p =
    let l = a_list p.first in
    record { item = Block l.list; words = after_word kind.Block l.many (then (encode_list l.list) l.words (one_read (part what.ListStatement n Nested) p)); holds = (d, l.keeps) }
a_statement a kind.Expr n {ws} {rest} h m d j p =
    let e = only p.first in
    record { item = Expr e.item; words = after_word kind.Expr (eqb-true n 0 m) (then (encode_expression e.item) e.words (one_read (part what.Expression 1 Same) p)); holds = (d, e.holds) }
a_statement a kind.Var n {ws} {rest} h m d j p =
    let v = declarators (leb-true 1 n m) p.first in
    record { item = Var v.first v.others; words = after_word kind.Var v.many (then (encode_declarators (v.first ∷ v.others)) v.words (one_read (part what.Declarator n Same) p)); holds = (d, v.known) }
a_statement a kind.Let n {ws} {rest} h m d j p = absurd (clash h)
a_statement a kind.If n {ws} {rest} h m d j p = of_if a n m d p
a_statement a kind.For n {ws} {rest} h m d j p = of_for a n m d p
a_statement a kind.While n {ws} {rest} h m d j p =
    let e = only p.first in
    let s = only p.second in
    record { item = While e.item s.item; words = after_word kind.While (eqb-true n 0 m) (then_two (encode_expression e.item) (encode s.item) rest e.words (then (encode s.item) s.words (two_read (part what.Expression 1 Same) (part what.SingleStatement 1 LoopBody) p))); holds = (d, e.holds, s.holds) }
a_statement a kind.Do n {ws} {rest} h m d j p =
    let s = only p.first in
    let e = only p.second in
    record { item = Do s.item e.item; words = after_word kind.Do (eqb-true n 0 m) (then_two (encode s.item) (encode_expression e.item) rest s.words (then (encode_expression e.item) e.words (two_read (part what.SingleStatement 1 LoopBody) (part what.Expression 1 Same) p))); holds = (d, s.holds, e.holds) }
a_statement a kind.Switch n {ws} {rest} h m d j p =
    let e = only p.first in
    let s = the_cases p.second in
    record { item = Switch e.item s.cases; words = after_word kind.Switch s.many (then_two (encode_expression e.item) (encode_cases s.cases) rest e.words (then (encode_cases s.cases) s.words (two_read (part what.Expression 1 Same) (part what.Case n SwitchCase) p))); holds = (d, e.holds, s.keeps, s.default) }
a_statement a kind.Label n {ws} {rest} h m d j p =
    let s = only p.first in
    record { item = Label n s.item; words = after_word kind.Label refl (then (encode s.item) s.words (one_read (part what.SingleStatement 1 LabelBody) p)); holds = (d, not_set (among n a.labels) j, s.holds) }
a_statement a kind.Break n {ws} {rest} h m d j p = record { item = Break; words = after_word kind.Break (eqb-true n 0 m) (none_read p); holds = (d, j) }
a_statement a kind.BreakTo n {ws} {rest} h m d j p = record { item = BreakTo n; words = after_word kind.BreakTo refl (none_read p); holds = (d, j) }
a_statement a kind.Continue n {ws} {rest} h m d j p = record { item = Continue; words = after_word kind.Continue (eqb-true n 0 m) (none_read p); holds = (d, j) }
a_statement a kind.ContinueTo n {ws} {rest} h m d j p = record { item = ContinueTo n; words = after_word kind.ContinueTo refl (none_read p); holds = (d, j) }
a_statement a kind.Return n {ws} {rest} h m d j p =
    let e = optional (leb-true n 1 m) p.first in
    record { item = Return e.test; words = after_word kind.Return e.many (then (encode_optional e.test) e.words (one_read (part what.Expression n Same) p)); holds = (d, e.known) }
a_statement a kind.Throw n {ws} {rest} h m d j p =
    let e = only p.first in
    record { item = Throw e.item; words = after_word kind.Throw (eqb-true n 0 m) (then (encode_expression e.item) e.words (one_read (part what.Expression 1 Same) p)); holds = (d, e.holds) }
a_statement a kind.Try n {ws} {rest} h m d j p = of_try a n m d p
a_statement a kind.Body n {ws} {rest} h m d j p = absurd (clash h)
a_statement a kind.Catch n {ws} {rest} h m d j p = absurd (clash h)
a_statement a kind.CatchName n {ws} {rest} h m d j p = absurd (clash h)
a_statement a kind.Case n {ws} {rest} h m d j p = absurd (clash h)
a_statement a kind.Default n {ws} {rest} h m d j p = absurd (clash h)
a_statement a kind.Expression n {ws} {rest} h m d j p = absurd (clash h)
a_statement a kind.Sequence n {ws} {rest} h m d j p = absurd (clash h)
a_statement a kind.Name n {ws} {rest} h m d j p = absurd (clash h)
a_statement a kind.NameInit n {ws} {rest} h m d j p = absurd (clash h)
