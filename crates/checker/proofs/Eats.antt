-- Trees that keep the rules are accepted: a check goes past the words of each part.
use Rattle.std.proofs.Common.{◌≡◌, ℕ, suc, ◌+◌, ◌-◌, Bool, true, false, cond, List, [], ◌∷◌, ◌++◌, length, Ok, Err, sym, refl, ap, ◌∙◌, ap₂, append_assoc, append-nil, arith, length-append, ne_eqb}
use Rattle.words.specs.declared.word.Word.{Word}
use Rattle.grammar.specs.declared.What.{What}
use Rattle.grammar.specs.declared.Part.{Part}
use Rattle.grammar.specs.declared.Parts.{Parts}
use Rattle.grammar.specs.Format as format
use Rattle.grammar.specs.Format.{admits, after, has_depth_lem, allows, parts, no_part}
use Rattle.faults.specs.declared.tree.TreeFault.{TreeFault}
use Rattle.checker.specs.Check.{Around, Due, Verdict, jumps_well, is_known, not_deep, judge, within, surround, need, part_due, rest_due, next, and_then, check}

abbrev pub due : What → ℕ → Around → Due
due x n a = record { what = x; times = n; around = a }

-- n things of x are so many words; after them y is due (another than x only after a Default)
pub record Eats (c : ℕ) (x y : What) (a : Around) (n : ℕ) (ws : List Word) : Type 0 where
  pub past : (k : ℕ) (ds : List Due) (rest : List Word) (at : ℕ) →
      check c (need (due x (n + k) a) ds) (ws ++ rest) at ≡ check c (need (due y k a) ds) rest (at + length ws)

-- n things of x, and no more, are so many words
pub record Done (c : ℕ) (x : What) (a : Around) (n : ℕ) (ws : List Word) : Type 0 where
  pub all : (ds : List Due) (rest : List Word) (at : ℕ) →
      check c (need (due x n a) ds) (ws ++ rest) at ≡ check c ds rest (at + length ws)

pub done : {c n : ℕ} {x y : What} {a : Around} {ws : List Word} → Eats c x y a n ws → Done c x a n ws
done {c} {n} {x} {y} {a} {ws} e = record {
  all = λ ds rest at.
      ap (λ m. check c (need (due x m a) ds) (ws ++ rest) at) (let g : n ≡ n + 0 = omega arith in g) ∙ e.past 0 ds rest at;
}

pub eats_none : {c : ℕ} {x : What} {a : Around} → Eats c x x a 0 []
eats_none {c} {x} {a} = record {
  past = λ k ds rest at.
      ap₂ (λ m p. check c (need (due x m a) ds) rest p) (let g : 0 + k ≡ k = omega arith in g) (let g : at ≡ at + 0 = omega arith in g);
}

pub eats_join : {c m n : ℕ} {x y z : What} {a : Around} {xs ys : List Word} → Eats c x y a m xs → Eats c y z a n ys → Eats c x z a (m + n) (xs ++ ys)
eats_join {c} {m} {n} {x} {y} {z} {a} {xs} {ys} p q = record {
  past = λ k ds rest at.
      ap₂ (λ j ws. check c (need (due x j a) ds) ws at) (let g : m + n + k ≡ m + (n + k) = omega arith in g) (append_assoc xs ys rest)
      ∙ p.past (n + k) ds (ys ++ rest) at ∙ q.past k ds rest (at + length xs)
      ∙ ap (check c (need (due z k a) ds) rest) (let l = length-append xs ys in let g : at + length xs + length ys ≡ at + length (xs ++ ys) = omega arith in g);
}

pub eats_as : {c m n : ℕ} {x y : What} {a : Around} {ws : List Word} → Eats c x y a m ws → m ≡ n → Eats c x y a n ws
eats_as {c} {x = x} {y = y} {a = a} {ws = ws} p e = record {
  past = λ k ds rest at.
      ap (λ j. check c (need (due x (j + k) a) ds) (ws ++ rest) at) (sym e) ∙ p.past k ds rest at;
}

-- the tests that a word passes
pub record Good (c : ℕ) (x : What) (a : Around) (w : Word) : Type 0 where
  pub stands : admits x w.kind ≡ true
  pub numbered : allows w.kind w.number ≡ true
  pub deep : not_deep x a ≡ true
  pub known : is_known c w.kind w.number ≡ true
  pub jumps : jumps_well w.kind w.number a ≡ true

judged : (p q r s t : Bool) (f g h i : TreeFault) → p ≡ true → q ≡ true → r ≡ true → s ≡ true → t ≡ true →
    ◌≡◌ {A = Verdict} (cond (cond p q false) (cond r (cond s (cond t (Ok tt) (Err i)) (Err h)) (Err g)) (Err f)) (Ok tt)
judged p q r s t f g h i a b c d e =
    ap₂ (λ x y. cond (cond x y false) (cond r (cond s (cond t (Ok tt) (Err i)) (Err h)) (Err g)) (Err f)) a b
    ∙ ap₂ (λ x y. cond x (cond y (cond t (Ok tt) (Err i)) (Err h)) (Err g)) c d ∙ ap (λ x. cond x (Ok tt) (Err i)) e

pub judge_good : {c : ℕ} {x : What} {a : Around} {w : Word} → Good c x a w → (n at : ℕ) → judge c (due x n a) w at ≡ Ok tt
judge_good {c} {x} {a} {w} g n at =
    judged (admits x w.kind) (allows w.kind w.number) (not_deep x a) (is_known c w.kind w.number) (jumps_well w.kind w.number a) _ _ _ _
    g.stands g.numbered g.deep g.known g.jumps

pub check_next : (c : ℕ) (d : Due) (ds : List Due) (w : Word) (ws : List Word) (at : ℕ) → judge c d w at ≡ Ok tt → check c (d ∷ ds) (w ∷ ws) at ≡ check c (next d w ds) ws (at + 1)
unfolding check
check_next c d ds w ws at j = ap (λ v. and_then v (check c (next d w ds) ws (at + 1))) j

-- the parts of a word, which have so much around them
pub record Parted (c : ℕ) (a : Around) (p : Parts) (ws : List Word) : Type 0 where
  pub one : List Word
  pub two : List Word
  pub three : List Word
  pub four : List Word
  pub words : ws ≡ one ++ (two ++ (three ++ four))
  pub first : Done c p.first.what (surround p.first.surroundings a) p.first.times one
  pub second : Done c p.second.what (surround p.second.surroundings a) p.second.times two
  pub third : Done c p.third.what (surround p.third.surroundings a) p.third.times three
  pub fourth : Done c p.fourth.what (surround p.fourth.surroundings a) p.fourth.times four

pub eats_word : {c : ℕ} {x : What} {a : Around} {ws : List Word} (w : Word) → Good c x a w → Parted c (within w a) (parts w) ws → Eats c x (after x w.kind) a 1 (w ∷ ws)
eats_word {c} {x} {a} {ws} w g p = record {
  past = λ k ds rest at.
      let A = p.one in let B = p.two in let C = p.three in let D = p.four in
      let r4 = need (rest_due (due x (1 + k) a) w) ds in
      let r3 = need (part_due (parts w).fourth (within w a)) r4 in
      let r2 = need (part_due (parts w).third (within w a)) r3 in
      let r1 = need (part_due (parts w).second (within w a)) r2 in
      let l : length (A ++ (B ++ (C ++ D))) ≡ length A + (length B + (length C + length D)) = simp length-append in
      let n = ap length p.words in
      ap (λ b. check c (cond b ds (due x (1 + k) a ∷ ds)) (w ∷ ws ++ rest) at) (ne_eqb (1 + k) 0 (λ e. omega arith))
      ∙ check_next c (due x (1 + k) a) ds w (ws ++ rest) at (judge_good g (1 + k) at)
      ∙ ap (λ vs. check c (next (due x (1 + k) a) w ds) vs (at + 1)) (ap (λ vs. vs ++ rest) p.words ∙ (let h : (A ++ (B ++ (C ++ D))) ++ rest ≡ A ++ (B ++ (C ++ (D ++ rest))) = simp append_assoc in h))
      ∙ p.first.all r1 _ (at + 1) ∙ p.second.all r2 _ (at + 1 + length A) ∙ p.third.all r3 _ (at + 1 + length A + length B)
      ∙ p.fourth.all r4 rest (at + 1 + length A + length B + length C)
      ∙ ap₂ (λ j q. check c (need (due (after x w.kind) j a) ds) rest q) (let h : 1 + k - 1 ≡ k = omega arith in h)
      (let h : at + 1 + length A + length B + length C + length D ≡ at + suc (length ws) = omega arith in h);
}

done_none : {c : ℕ} {x : What} {a : Around} → Done c x a 0 []
done_none = done eats_none

-- no parts, one, two, three or four
pub parts_0 : {c : ℕ} {a : Around} → Parted c a (format.one no_part) []
parts_0 = record { one = []; two = []; three = []; four = []; words = refl; first = done_none; second = done_none; third = done_none; fourth = done_none }

pub parts_1 : {c : ℕ} {a : Around} (p : Part) {xs : List Word} → Done c p.what (surround p.surroundings a) p.times xs → Parted c a (format.one p) xs
parts_1 p {xs} d = record { one = xs; two = []; three = []; four = []; words = sym (append-nil xs); first = d; second = done_none; third = done_none; fourth = done_none }

pub parts_2 : {c : ℕ} {a : Around} (p q : Part) {xs ys : List Word} →
    Done c p.what (surround p.surroundings a) p.times xs → Done c q.what (surround q.surroundings a) q.times ys → Parted c a (format.two p q) (xs ++ ys)
parts_2 p q {xs} {ys} d e = record {
  one = xs;
  two = ys;
  three = [];
  four = [];
  words = ap (λ v. xs ++ v) (sym (append-nil ys));
  first = d;
  second = e;
  third = done_none;
  fourth = done_none;
}

pub parts_3 : {c : ℕ} {a : Around} (p q r : Part) {xs ys zs : List Word} →
    Done c p.what (surround p.surroundings a) p.times xs → Done c q.what (surround q.surroundings a) q.times ys →
    Done c r.what (surround r.surroundings a) r.times zs → Parted c a (format.three p q r) (xs ++ (ys ++ zs))
parts_3 p q r {xs} {ys} {zs} d e f = record {
  one = xs;
  two = ys;
  three = zs;
  four = [];
  words = ap (λ v. xs ++ (ys ++ v)) (sym (append-nil zs));
  first = d;
  second = e;
  third = f;
  fourth = done_none;
}
