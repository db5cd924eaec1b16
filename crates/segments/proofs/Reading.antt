-- What is read of a text, as the functions of `src/segment.rt` and `src/filter.rt` put it together. Assumes nothing.
use Rattle.std.proofs.Common.{◌≡◌, ℕ, ◌<◌, Bool, true, false, cond, List, [], ◌∷◌, ◌++◌, length, ℤ, is_some, Some, None, Ok, Err, MatchOption, MatchResult, Option, Result, sym, refl, ◌∙◌, subst, inl, inr, append_assoc, append-nil, arith, length-append}
use Rattle.std.proofs.Math.Seq.{get_or-append_seam}
use lib.Signed.{le_z}
use Rattle.std.specs.Char.{is_whitespace, is_not_whitespace}
use Rattle.std.specs.List.{All}
use Rattle.std.specs.Result.{is_ok}
use Rattle.std.specs.Str.{NoCharPasses, EmptyOrStartsWithPassing}
use Rattle.std.specs.Borrow.{Bor}
use Rattle.std.specs.declared.str.SplitWhitespace.{SplitWhitespace}
use Rattle.std.specs.Str.Iter.{split_whitespace_rest, split_whitespace_steps}
use Rattle.std.proofs.lemmas.List.Elements.{All-nil, All-push}
use Rattle.std.proofs.lemmas.Bool.{false≢true}
use Rattle.std.specs.Option.{ok_or}
use Rattle.answers.specs.declared.refusal.Ground.TheVariants.{CrossedEnds}
use Rattle.answers.specs.Refusals.{refusal}
use Rattle.interval_arithmetic.specs.Ends.{fair, try_new_of}
use Rattle.interval_arithmetic.proofs.Meets.{fair_from}
use Rattle.kinds.specs.declared.whole.WholeRange.{WholeRange}
use Rattle.kinds.specs.declared.whole.WholeSort.TheVariants.{Whole}
use Rattle.kinds.specs.Whole.{inside, range, whole_order}
use Rattle.segments.specs.Texts.{Said, EndIs, BoundsAre, ColumnIs, First, Words, Other, Gives, SegmentSays, symbol_of, FilterSays}
use Rattle.segments.specs.declared.filter.Filter.{Filter}
use Rattle.segments.specs.declared.segment.Segment.{Segment}
use Rattle.segments.proofs.Unique.{first_same, blank_none, words_same, column_same, end_same, bounds_cut, end_fits}

-- another error says the same
pub said_mapped : {X D E : Type 0} (says : X → Type 0) (Q : D → Type 0) (r : Result X D) (s : Result X E) → MatchResult r (λ x. s ≡ Ok x) Q → is_ok s ≡ is_ok r → Said says r → Said says s
said_mapped says Q (Ok x) s h v k = rw h k
said_mapped says Q (Err d) (Ok x) h v k = absurd (false≢true (sym v))
said_mapped says Q (Err d) (Err e) h v k = k

module _ {bs : List ℕ} (xs ys : List ℕ) (cut : bs ≡ xs ++ (46 ∷ 46 ∷ ys)) where
  -- the ends of bounds are what stands on the two sides of the dots
  pub ends_of : {r : WholeRange} → BoundsAre bs r → EndIs xs r.low × EndIs ys r.high
  ends_of b = grind (arith, bounds_cut b cut, b.lower, b.upper)

  pub try_new_says : (l u : Option ℤ) → EndIs xs l → EndIs ys u → Said (BoundsAre bs) (try_new_of whole_order Whole l u)
  try_new_says l u low high = by (fair inside le_z l u) refl
    where
      by : (t : Bool) → fair inside le_z l u ≡ t → Said (BoundsAre bs) (ok_or (cond t (Some (range l u)) None) (refusal CrossedEnds 0))
      by true f = record { front = xs; back = ys; cut = cut; lower = low; upper = high; fair = grind (arith, f) }
      by false f = λ r b.
          grind (arith, end_same xs r.low l (ends_of b).0 low, end_same ys r.high u (ends_of b).1 high, fair_from inside le_z l u (end_fits xs l low) (end_fits ys u high), b.fair, f)

-- what `split_whitespace` says of an item
pub first_of : (text bs w rest : List ℕ) → bs ≡ text → (gap : List ℕ) × (bs ≡ gap ++ (w ++ rest)) × (0 < length w) × NoCharPasses is_not_whitespace gap × NoCharPasses is_whitespace w × ((more : List ℕ) × EmptyOrStartsWithPassing is_whitespace rest more) → First text w rest
first_of text bs w rest e item = record { gap = item.0; cut = sym e ∙ item.1; some = item.2; blank = item.3; solid = item.4; ends = item.5 }

-- the first word of a text is the first item of `split_whitespace`, which ends where there is no word
pub first_item : {text : List ℕ} (s t : SplitWhitespace) (r : Option (Bor (List ℕ))) (w : List ℕ) (ws : List (List ℕ)) → split_whitespace_rest s ≡ text → split_whitespace_steps s r t → Words text (w ∷ ws) → MatchOption r ⊥ (λ x. x.now ≡ w) × Words (split_whitespace_rest t) ws
first_item s t None w ws e step h = absurd (blank_none (subst (NoCharPasses is_not_whitespace) e step.1) h.1)
first_item {text} s t (Some x) w ws e step h =
    let same = first_same (first_of text (split_whitespace_rest s) x.now (split_whitespace_rest t) e step) h.1 in
    (same.0, subst (λ v. Words v ws) (sym same.1) h.2)

pub no_item : (s t : SplitWhitespace) (r : Option (Bor (List ℕ))) → split_whitespace_steps s r t → Words (split_whitespace_rest s) [] → MatchOption r (Unit {0}) (λ x. ⊥)
no_item s t None step h = tt
no_item s t (Some x) step h = blank_none h (first_of (split_whitespace_rest s) (split_whitespace_rest s) x.now (split_whitespace_rest t) refl step)

-- the words of a text are those of the filter that it says
pub filter_words : {bs a b c : List ℕ} {f : Filter} (k : FilterSays bs f) → Words bs (a ∷ b ∷ c ∷ []) → (f.column.now ≡ a) × (symbol_of f.comparison ≡ b) × (k.number ≡ c)
filter_words {bs} {a} {b} {c} {f} k words =
    let same = words_same bs (f.column.now ∷ symbol_of f.comparison ∷ k.number ∷ []) (a ∷ b ∷ c ∷ []) k.words words in
    (cc, cc, cc)

-- seen are the words of text before rest
pub record Seen (text rest : List ℕ) (seen : List (List ℕ)) : Type 0 where
  pub before : (ws : List (List ℕ)) → Words rest ws → Words text (seen ++ ws)
  pub after : (vs : List (List ℕ)) → Words text vs → (ws : List (List ℕ)) × (vs ≡ seen ++ ws) × Words rest ws

pub one_seen : {text rest w next : List ℕ} {seen : List (List ℕ)} → Seen text rest seen → First rest w next → Seen text next (seen ++ (w ∷ []))
one_seen {text} {rest} {w} {next} {seen} old first = record {
  before = λ ws h. rw append_assoc (old.before (w ∷ ws) (next, first, h));
  after = λ vs h. let k = old.after vs h in by vs k.0 k.1 k.2;
}
  where
    by : (vs ws : List (List ℕ)) → vs ≡ seen ++ ws → Words rest ws → (us : List (List ℕ)) × (vs ≡ (seen ++ (w ∷ [])) ++ us) × Words next us
    by vs [] e k = absurd (blank_none k first)
    by vs (v ∷ us) e k =
        let same = first_same k.1 first in
        (us, rw append_assoc (subst (λ x. vs ≡ seen ++ (x ∷ us)) same.0 e), subst (λ x. Words x us) same.1 k.2)

-- where nothing follows, the words of text are those seen
pub all_seen : {text rest : List ℕ} {seen : List (List ℕ)} → Seen text rest seen → Words rest [] → Words text seen
all_seen {text} {rest} {seen} old none = subst (Words text) (append-nil seen) (old.before [] none)

gives_other : (name : List ℕ) (ws : List (List ℕ)) (w : List ℕ) (o : Option WholeRange) → Gives name ws o → Other name w → Gives name (ws ++ (w ∷ [])) o
gives_other name [] w o h k = inl (k, h)
gives_other name (v ∷ ws) w o (inl p) k = inl (p.0, gives_other name ws w o p.1 k)
gives_other name (v ∷ ws) w o (inr p) k = inr (p.0, p.1, p.2, All-push (Other name) ws w p.3 k)

gives_this : (name : List ℕ) (ws : List (List ℕ)) (w : List ℕ) (r : WholeRange) → Gives name ws None → ColumnIs w name r → Gives name (ws ++ (w ∷ [])) (Some r)
gives_this name [] w r h k = inr (r, refl, k, All-nil (Other name))
gives_this name (v ∷ ws) w r (inl p) k = inl (p.0, gives_this name ws w r p.1 k)
gives_this name (v ∷ ws) w r (inr p) k = absurd (grind (arith, p.1))

other_at : (name : List ℕ) (us vs : List (List ℕ)) (w : List ℕ) → All (Other name) (us ++ (w ∷ vs)) → Other name w
other_at name us vs w h = subst (Other name) (get_or-append_seam us w vs []) (h (length us) [] (simp length-append (omega arith)))

other_not : {name w : List ℕ} {r : WholeRange} → Other name w → ColumnIs w name r → ⊥
other_not o k = o.3 (column_same o.2 k)

-- each of the words is a column
gives_column : (name : List ℕ) (us vs : List (List ℕ)) (w : List ℕ) (o : Option WholeRange) → Gives name (us ++ (w ∷ vs)) o → (n : List ℕ) × (r : WholeRange) × ColumnIs w n r
gives_column name [] vs w o (inl p) = (p.0.0, p.0.1, p.0.2)
gives_column name [] vs w o (inr p) = (name, p.0, p.2)
gives_column name (u ∷ us) vs w o (inl p) = gives_column name us vs w o p.1
gives_column name (u ∷ us) vs w o (inr p) = let k = other_at name us vs w p.3 in (k.0, k.1, k.2)

-- no two are of the name
gives_once : (name : List ℕ) (us vs : List (List ℕ)) (w : List ℕ) (r q : WholeRange) (o : Option WholeRange) → Gives name us (Some r) → ColumnIs w name q → Gives name (us ++ (w ∷ vs)) o → ⊥
gives_once name [] vs w r q o h k g = cc
gives_once name (u ∷ us) vs w r q o (inl h) k (inl g) = gives_once name us vs w r q o h.1 k g.1
gives_once name (u ∷ us) vs w r q o (inl h) k (inr g) = other_not h.0 g.2
gives_once name (u ∷ us) vs w r q o (inr h) k (inl g) = other_not g.0 h.2
gives_once name (u ∷ us) vs w r q o (inr h) k (inr g) = other_not (other_at name us vs w g.3) k

-- the loop's invariant: o is what the words of text before rest give
pub record Sofar (text rest name : List ℕ) (o : Option WholeRange) : Type 0 where
  pub seen : List (List ℕ)
  pub words : Seen text rest seen
  pub gives : Gives name seen o

module _ {text rest name : List ℕ} {o : Option WholeRange} (old : Sofar text rest name o) {w next : List ℕ} (first : First rest w next) where
  pub one_other : Other name w → Sofar text next name o
  one_other k = record { seen = old.seen ++ (w ∷ []); words = one_seen old.words first; gives = gives_other name old.seen w o old.gives k }

  pub one_this : (r : WholeRange) → is_some o ≡ false → ColumnIs w name r → Sofar text next name (Some r)
  one_this r e k = record { seen = old.seen ++ (w ∷ []); words = one_seen old.words first; gives = by o e old.gives }
    where
      by : (p : Option WholeRange) → is_some p ≡ false → Gives name old.seen p → Gives name (old.seen ++ (w ∷ [])) (Some r)
      by None e h = gives_this name old.seen w r h k
      by (Some p) e h = absurd (false≢true (sym e))

  -- what the words give, with w among them
  among : (vs : List (List ℕ)) (q : Option WholeRange) → Words text vs → Gives name vs q → (us : List (List ℕ)) × Gives name (old.seen ++ (w ∷ us)) q
  among vs q h g =
      let k = (one_seen old.words first).after vs h in
      (k.0, subst (λ x. Gives name x q) (k.1 ∙ append_assoc old.seen (w ∷ []) k.0) g)

  pub no_column : ((n : List ℕ) (r : WholeRange) → ColumnIs w n r → ⊥) → (q : Option WholeRange) → (ws : List (List ℕ)) × Words text ws × Gives name ws q → ⊥
  no_column never q h =
      let g = among h.0 q h.1 h.2 in
      let k = gives_column name old.seen g.0 w q g.1 in
      never k.0 k.1 k.2

  pub no_second : (r : WholeRange) → is_some o ≡ true → ColumnIs w name r → (q : Option WholeRange) → (ws : List (List ℕ)) × Words text ws × Gives name ws q → ⊥
  no_second r t k q h = let g = among h.0 q h.1 h.2 in by o t old.gives g.0 g.1
    where
      by : (p : Option WholeRange) → is_some p ≡ true → Gives name old.seen p → (us : List (List ℕ)) → Gives name (old.seen ++ (w ∷ us)) q → ⊥
      by None e h us g = false≢true e
      by (Some p) e h us g = gives_once name old.seen us w p r q h k g

-- where the line reads as another segment, its name and its columns are the same
pub segment_words : {bs column w rest : List ℕ} {s : Segment} → First bs w rest → (k : SegmentSays bs column s) → (s.name.now ≡ w) × Words rest k.columns
segment_words first k = let same = first_same k.words.1 first in (same.0, subst (λ x. Words x k.columns) same.1 k.words.2)
