-- A text is read in one way: its words, the parts of a column, the ends of bounds. Assumes nothing.
use Rattle.std.proofs.Common.{◌≡◌, ℕ, suc, ◌-◌, ◌<◌, Bool, true, false, not, List, [], ◌∷◌, ◌++◌, length, drop, ℤ, Some, None, Option, sym, refl, ap, ◌∙◌, subst, append_assoc, append-nil, arith, length-append, length-drop}
use Rattle.std.proofs.Math.Utf8.{encode, encodes}
use Rattle.std.specs.Str.Iter.{LacksByte}
use Rattle.std.specs.Str.Parse.{IsNumeral, without_leading_sign}
use Rattle.std.specs.Char.{is_whitespace, is_not_whitespace}
use Rattle.std.specs.Str.{NonePass, NoCharPasses, EmptyOrStartsWithPassing}
use Rattle.std.proofs.lemmas.List.{get_or_at, get_or-drop}
use Rattle.std.proofs.lemmas.Str.Parse.{digit_at}
use Rattle.std.proofs.lemmas.Str.{encode_same, length-encode, len_utf8_bounds}
use Rattle.interval_arithmetic.specs.Ends.{end_is}
use Rattle.kinds.specs.declared.whole.WholeRange.{WholeRange}
use Rattle.kinds.specs.Whole.{inside}
use Rattle.segments.specs.Texts.{EndIs, BoundsAre, ColumnIs, First, Words}

-- a character that passes p comes first, if any does
abbrev Starts : (ℕ → Bool) → List ℕ → Type 0
Starts p x = 0 < length x → (c : ℕ) × (r : List ℕ) × (p c ≡ true) × (x ≡ encode c ++ r)

starts_nil : (p : ℕ → Bool) → Starts p []
starts_nil p some = absurd (omega arith)

opens : {p : ℕ → Bool} {x : List ℕ} → (more : List ℕ) × EmptyOrStartsWithPassing p x more → Starts p x
opens h some = search (arith, h)

clash : (p : ℕ → Bool) (d : ℕ) (r x : List ℕ) → Starts p x → p d ≡ false → x ≡ encode d ++ r → ⊥
clash p d r x s fails e = grind (arith, s, encode_same, length-append (encode d) r, length-encode d, len_utf8_bounds d)

chars_same : (p : ℕ → Bool) (cs ds x y : List ℕ) → NonePass p cs → NonePass p ds → Starts p x → Starts p y → encodes cs ++ x ≡ encodes ds ++ y → (encodes cs ≡ encodes ds) × (x ≡ y)
chars_same p [] [] x y f g s t e = (refl, e)
chars_same p [] (d ∷ ds) x y f g s t e = absurd (clash p d (encodes ds ++ y) x s g.0 (simp append_assoc at e))
chars_same p (c ∷ cs) [] x y f g s t e = absurd (clash p c (encodes cs ++ x) y t f.0 (simp append_assoc at (sym e)))
chars_same p (c ∷ cs) (d ∷ ds) x y f g s t e =
    let heads = encode_same c d (encodes cs ++ x) (encodes ds ++ y) (simp append_assoc at e) in
    let rest = chars_same p cs ds x y f.1 g.1 s t heads.1 in
    let head = heads.0 in
    let tail = rest.0 in
    (cc, rest.1)

-- what fails p, up to a character that passes it, is one part of the text
part_same : {p : ℕ → Bool} {xs ys us vs : List ℕ} → NoCharPasses p xs → NoCharPasses p us → Starts p ys → Starts p vs → xs ++ ys ≡ us ++ vs → (xs ≡ us) × (ys ≡ vs)
part_same {p} {xs} {ys} {us} {vs} f g s t e =
    let same = chars_same p f.0 g.0 ys vs f.2 g.2 s t (rw (f.1, g.1) e) in
    (cc, same.1)

-- a word begins with what is not white
starts_word : {bs w rest : List ℕ} → First bs w rest → Starts is_not_whitespace (w ++ rest)
starts_word {bs} {w} {rest} f some = by f.solid.0 f.solid.1 f.solid.2
  where
    by : (cs : List ℕ) → encodes cs ≡ w → NonePass is_whitespace cs → (c : ℕ) × (r : List ℕ) × (is_not_whitespace c ≡ true) × (w ++ rest ≡ encode c ++ r)
    by [] e dark = absurd (grind (arith, f.some))
    by (c ∷ cs) e dark = (c, encodes cs ++ rest, ap not dark.0, rw (← e) (append_assoc (encode c) (encodes cs) rest))

pub first_same : {bs w rest v next : List ℕ} → First bs w rest → First bs v next → (w ≡ v) × (rest ≡ next)
first_same f g = part_same f.solid g.solid (opens f.ends) (opens g.ends) (part_same f.blank g.blank (starts_word f) (starts_word g) (sym f.cut ∙ g.cut)).1

-- a blank text has no word
pub blank_none : {bs w rest : List ℕ} → NoCharPasses is_not_whitespace bs → First bs w rest → ⊥
blank_none {bs} {w} {rest} b f =
    grind (arith, part_same b f.blank (starts_nil is_not_whitespace) (starts_word f) (append-nil bs ∙ f.cut), length-append w rest, f.some)

pub words_same : (bs : List ℕ) (us vs : List (List ℕ)) → Words bs us → Words bs vs → us ≡ vs
words_same bs [] [] h k = refl
words_same bs [] (v ∷ vs) h k = absurd (blank_none h k.1)
words_same bs (u ∷ us) [] h k = absurd (blank_none k h.1)
words_same bs (u ∷ us) (v ∷ vs) h k =
    let same = first_same h.1 k.1 in
    cc (same.0, words_same k.0 us vs (subst (λ x. Words x us) same.1 h.2) k.2)

-- a list with a c in it does not lack it
lacks_none : (c : ℕ) (xs ys zs : List ℕ) → LacksByte c zs → zs ≡ xs ++ (c ∷ ys) → ⊥
lacks_none c xs ys zs lacks e = grind (arith, lacks (length xs), get_or_at xs c ys 0 (length xs) refl, length-append xs (c ∷ ys))

-- what stands before the first c is one part of the text
before_same : (c : ℕ) (xs ys us vs : List ℕ) → LacksByte c xs → LacksByte c us → xs ++ (c ∷ ys) ≡ us ++ (c ∷ vs) → xs ≡ us
before_same c [] ys [] vs f g e = refl
before_same c [] ys (u ∷ us) vs f g e = absurd (lacks_none c [] us (u ∷ us) g cc)
before_same c (x ∷ xs) ys [] vs f g e = absurd (lacks_none c [] xs (x ∷ xs) f cc)
before_same c (x ∷ xs) ys (u ∷ us) vs f g e = cc (before_same c xs ys us vs (λ k l. f (suc k) (omega arith)) (λ k l. g (suc k) (omega arith)) cc)

pub column_same : {w n m : List ℕ} {r q : WholeRange} → ColumnIs w n r → ColumnIs w m q → n ≡ m
column_same {w} {n} {m} a b = before_same 61 n a.back m b.back a.plain b.plain (sym a.cut ∙ b.cut)

-- a number holds no `.`
number_lacks : (bs : List ℕ) → IsNumeral 10 (without_leading_sign bs) → LacksByte 46 bs
number_lacks bs h k l e = grind (arith, h, e, l, digit_at (drop 1 bs) (k - 1), digit_at bs k, get_or-drop 1 bs (k - 1) 0, length-drop 1 bs)

-- an end holds no `.`
end_lacks : (bs : List ℕ) (e : Option ℤ) → EndIs bs e → LacksByte 46 bs
end_lacks bs e h = grind (arith, h, number_lacks)

pub end_same : (bs : List ℕ) (e d : Option ℤ) → EndIs bs e → EndIs bs d → e ≡ d
end_same bs e d h k = grind (arith, h, k)

-- two dots in a text that has no more stand at one place
dots_same : (fs zs xs ys : List ℕ) → LacksByte 46 fs → LacksByte 46 zs → fs ++ (46 ∷ 46 ∷ zs) ≡ xs ++ (46 ∷ 46 ∷ ys) → (fs ≡ xs) × (zs ≡ ys)
dots_same [] zs [] ys f g e = (refl, cc)
dots_same [] zs (x ∷ []) ys f g e = absurd (lacks_none 46 [] ys zs g cc)
dots_same [] zs (x ∷ y ∷ xs) ys f g e = absurd (lacks_none 46 xs (46 ∷ ys) zs g cc)
dots_same (b ∷ fs) zs [] ys f g e = absurd (lacks_none 46 [] fs (b ∷ fs) f cc)
dots_same (b ∷ fs) zs (x ∷ xs) ys f g e =
    let rest = dots_same fs zs xs ys (λ k l. f (suc k) (omega arith)) g cc in
    (cc rest.0, rest.1)

-- bounds are cut at one place
pub bounds_cut : {bs xs ys : List ℕ} {r : WholeRange} (b : BoundsAre bs r) → bs ≡ xs ++ (46 ∷ 46 ∷ ys) → (b.front ≡ xs) × (b.back ≡ ys)
bounds_cut {bs} {xs} {ys} {r} b e = dots_same b.front b.back xs ys (end_lacks b.front r.low b.lower) (end_lacks b.back r.high b.upper) (sym b.cut ∙ e)

-- a number that is read fits
pub end_fits : (bs : List ℕ) (e : Option ℤ) → EndIs bs e → end_is inside e ≡ true
end_fits bs None h = refl
end_fits bs (Some z) h = grind (arith, h)
