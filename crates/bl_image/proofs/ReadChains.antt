-- Things that are read one after another.
use Rattle.std.proofs.Common.{◌≡◌, ℕ, zero, suc, ◌+◌, ◌<◌, List, [], ◌∷◌, ◌++◌, length, append_assoc, append-nil, length-append, ap, ap₂, sym, ◌∙◌, refl, subst, arith}
use Rattle.bl_leb.specs.Grammar.{Spellings, given}
use Rattle.bl_format.specs.Grammar.{each, each_after}
use Rattle.bl_format.proofs.Chains.{behind, one_more}
use Rattle.bl_image.specs.ReaderAnswers.{Begins, NoneBegins, Fills}

-- so many of them
abbrev pub counted : {S A : Type 0} → (S → A → S) → (S → A → Spellings) → S → ℕ → List A → Spellings
counted next B state n xs = given (length xs ≡ n) (each_after next B state xs)

-- a chain taken apart at one of its things
pub record Split {S A : Type 0} (next : S → A → S) (B : S → A → Spellings) (state : S) (n : ℕ) (ys : List A) (t : List ℕ) : Type 0 where
  pub former : List A
  pub here : A
  pub later : List A
  pub a : List ℕ
  pub b : List ℕ
  pub c : List ℕ
  pub list : ys ≡ former ++ here ∷ later
  pub long : length former ≡ n
  pub before : each_after next B state former a
  pub spelled : B (behind next state former) here b
  pub after : each_after next B (next (behind next state former) here) later c
  pub whole : t ≡ a ++ (b ++ c)

pub split : {S A : Type 0} (next : S → A → S) (B : S → A → Spellings) (state : S) (n : ℕ) (ys : List A) (t : List ℕ) → n < length ys → each_after next B state ys t → Split next B state n ys t
split next B state n [] t less h = absurd (omega arith)
split next B state zero (y ∷ ys) t less h = record { former = []; here = y; later = ys; a = []; b = h.front; c = h.rest; list = refl; long = refl; before = refl; spelled = h.first; after = h.second; whole = h.whole }
split next B state (suc n) (y ∷ ys) t less h =
    let s = split next B (next state y) n ys h.rest (omega arith) h.second in
    record {
      former = y ∷ s.former;
      here = s.here;
      later = s.later;
      a = h.front ++ s.a;
      b = s.b;
      c = s.c;
      list = ap (λ l. y ∷ l) s.list;
      long = ap suc s.long;
      before = record { front = h.front; rest = s.a; whole = refl; first = h.first; second = s.before };
      spelled = s.spelled;
      after = s.after;
      whole = h.whole ∙ ap (λ l. h.front ++ l) s.whole ∙ sym (append_assoc h.front s.a (s.b ++ s.c));
    }

-- none is spelled by no bytes
pub ended : {S A : Type 0} (next : S → A → S) (B : S → A → Spellings) (state : S) (ys : List A) (t : List ℕ) → length ys ≡ 0 → each_after next B state ys t → (ys ≡ []) × (t ≡ [])
ended next B state [] t none h = (refl, h)
ended next B state (y ∷ ys) t none h = absurd (omega arith)

-- what stands behind so many, where more of them are spelled
pub record Goes {S A : Type 0} (next : S → A → S) (B : S → A → Spellings) (state : S) (xs : List A) (ys : List A) (m more : List ℕ) : Type 0 where
  pub here : A
  pub later : List A
  pub b : List ℕ
  pub c : List ℕ
  pub list : ys ≡ xs ++ here ∷ later
  pub spelled : B (behind next state xs) here b
  pub after : each_after next B (next (behind next state xs) here) later c
  pub rest : m ≡ b ++ (c ++ more)

pub goes : {S A : Type 0} (next : S → A → S) (B : S → A → Spellings) (state : S) (s m : List ℕ) (xs ys : List A) (other more : List ℕ) → Begins (counted next B state (length xs)) s xs m → length xs < length ys → each_after next B state ys other → s ≡ other ++ more → Goes next B state xs ys m more
goes {A} next B state s m xs ys other more p less h e =
    let q = split next B state (length xs) ys other less h in
    let whole : s ≡ q.a ++ ((q.b ++ q.c) ++ more) = e ∙ ap (λ t. t ++ more) q.whole ∙ append_assoc q.a (q.b ++ q.c) more in
    let same = p.only q.former q.a ((q.b ++ q.c) ++ more) (q.long, q.before) whole in
    record {
      here = q.here;
      later = q.later;
      b = q.b;
      c = q.c;
      list = q.list ∙ ap (λ l. l ++ q.here ∷ q.later) same.0;
      spelled = subst (λ (l : List A). B (behind next state l) q.here q.b) same.0 q.spelled;
      after = subst (λ (l : List A). each_after next B (next (behind next state l) q.here) q.later q.c) same.0 q.after;
      rest = sym same.1 ∙ append_assoc q.b q.c more;
    }

pub begins_more : {S A : Type 0} (next : S → A → S) (B : S → A → Spellings) (state : S) (s m r : List ℕ) (xs : List A) (x : A) → Begins (counted next B state (length xs)) s xs m → Begins (B (behind next state xs)) m x r → Begins (counted next B state (length (xs ++ x ∷ []))) s (xs ++ x ∷ []) r
begins_more next B state s m r xs x p q = record {
  front = p.front ++ q.front;
  whole = p.whole ∙ ap (λ t. p.front ++ t) q.whole ∙ sym (append_assoc p.front q.front r);
  spelled = (refl, one_more next B state xs x p.front q.front p.spelled.1 q.spelled);
  only = λ ys other more h e.
      let g = goes next B state s m xs ys other more p (omega (arith, length-append xs (x ∷ []), h.0)) h.1 e in
      let same = q.only g.here g.b (g.c ++ more) g.spelled g.rest in
      let end = ended next B (next (behind next state xs) g.here) g.later g.c (omega (arith, h.0, length-append xs (x ∷ []), ap length g.list, length-append xs (g.here ∷ g.later))) g.after in
      (g.list ∙ ap₂ (λ y l. xs ++ y ∷ l) same.0 end.0, ap (λ t. t ++ more) (sym end.1) ∙ same.1);
}

pub none_more : {S A : Type 0} (next : S → A → S) (B : S → A → Spellings) (state : S) (s m : List ℕ) (xs : List A) (n : ℕ) → Begins (counted next B state (length xs)) s xs m → length xs < n → NoneBegins (B (behind next state xs)) m → NoneBegins (counted next B state n) s
none_more next B state s m xs n p less q = record {
  none = λ ys other more h e.
      let g = goes next B state s m xs ys other more p (omega (arith, h.0)) h.1 e in
      q.none g.here g.b (g.c ++ more) g.spelled g.rest;
}

-- ---- to the end of the bytes

-- what was read behind `start`, where the rest of `s` is left
pub record SoFar {A : Type 0} (B : A → Spellings) (start : List A) (s m : List ℕ) (all : List A) : Type 0 where
  pub read : List A
  pub list : all ≡ start ++ read
  pub joins : (zs : List A) → each B zs m → each B (read ++ zs) s
  pub splits : (ys : List A) → each B ys s → (zs : List A) × (ys ≡ read ++ zs) × each B zs m

-- what is left begins with a thing
pub record First {A : Type 0} (B : A → Spellings) (zs : List A) (m : List ℕ) : Type 0 where
  pub here : A
  pub later : List A
  pub front : List ℕ
  pub rest : List ℕ
  pub list : zs ≡ here ∷ later
  pub whole : m ≡ front ++ rest
  pub spelled : B here front
  pub after : each B later rest

first_of : {A : Type 0} (B : A → Spellings) (zs : List A) (m : List ℕ) → 0 < length m → each B zs m → First B zs m
first_of B [] m some h = absurd (omega (arith, ap length h))
first_of B (z ∷ zs) m some h = record { here = z; later = zs; front = h.front; rest = h.rest; list = refl; whole = h.whole; spelled = h.first; after = h.second }

pub one_further : {A : Type 0} (B : A → Spellings) (start : List A) (s m r : List ℕ) (all : List A) (x : A) → 0 < length m → SoFar B start s m all → Begins B m x r → SoFar B start s r (all ++ x ∷ [])
one_further {A} B start s m r all x some p q = record {
  read = p.read ++ x ∷ [];
  list = ap (λ l. l ++ x ∷ []) p.list ∙ append_assoc start p.read (x ∷ []);
  joins = λ zs h.
      subst (λ (l : List A). each B l s) (sym (append_assoc p.read (x ∷ []) zs)) (p.joins (x ∷ zs) (record { front = q.front; rest = r; whole = q.whole; first = q.spelled; second = h }));
  splits = λ ys h.
      let parts = p.splits ys h in
      let f = first_of B parts.0 m some parts.2 in
      let same = q.only f.here f.front f.rest f.spelled f.whole in (
        f.later,
        parts.1 ∙ ap (λ l. p.read ++ l) (f.list ∙ ap (λ y. y ∷ f.later) same.0) ∙ sym (append_assoc p.read (x ∷ []) f.later),
        subst (λ (t : List ℕ). each B f.later t) same.1 f.after,
      );
}

-- where nothing of a byte or more is left, nothing is
pub at_end : {A : Type 0} (B : A → Spellings) (start : List A) (s m : List ℕ) (all : List A) → ((x : A) → B x [] → ⊥) → length m ≡ 0 → SoFar B start s m all → (xs : List A) × (all ≡ start ++ xs) × Fills B s xs
at_end {A} B start s m all never none p = (
  p.read,
  p.list,
  record {
    spelled = subst (λ (l : List A). each B l s) (append-nil p.read) (p.joins [] (empty m none));
    only = λ ys h. let parts = p.splits ys h in parts.1 ∙ ap (λ l. p.read ++ l) (no_more parts.0 m none parts.2) ∙ append-nil p.read;
  },
)
  where
    empty : (t : List ℕ) → length t ≡ 0 → t ≡ []
    empty [] none = refl
    empty (x ∷ t) none = absurd (omega arith)

    no_more : (zs : List A) (t : List ℕ) → length t ≡ 0 → each B zs t → zs ≡ []
    no_more [] t none h = refl
    no_more (z ∷ zs) t none h =
        let long = length-append h.front h.rest in
        absurd (never z (subst (B z) (empty h.front (omega (arith, ap length h.whole, long))) h.first))

pub no_rest : {A : Type 0} (B : A → Spellings) (start : List A) (s m : List ℕ) (all : List A) → 0 < length m → SoFar B start s m all → NoneBegins B m → (ys : List A) → each B ys s → ⊥
no_rest B start s m all some p q ys h =
    let parts = p.splits ys h in
    let f = first_of B parts.0 m some parts.2 in
    q.none f.here f.front f.rest f.spelled f.whole

-- where something is left, more things are spelled than were read
pub more_left : {A : Type 0} (B : A → Spellings) (start : List A) (s m : List ℕ) (all : List A) → 0 < length m → SoFar B start s m all → (ys : List A) → each B ys s → length all < length start + length ys
more_left B start s m all some p ys h =
    let parts = p.splits ys h in
    let f = first_of B parts.0 m some parts.2 in
    omega (arith, ap length p.list, length-append start p.read, ap length parts.1, length-append p.read parts.0, ap length f.list)

-- what was read of so many things, of which none is kept
pub record Counted {A : Type 0} (B : A → Spellings) (s m : List ℕ) (count : ℕ) : Type 0 where
  pub read : List A
  pub long : length read ≡ count
  pub so_far : SoFar B [] s m read

pub counted_further : {A : Type 0} (B : A → Spellings) (s m r : List ℕ) (count : ℕ) (x : A) → 0 < length m → Counted B s m count → Begins B m x r → Counted B s r (count + 1)
counted_further B s m r count x some p q = record {
  read = p.read ++ x ∷ [];
  long = length-append p.read (x ∷ []) ∙ ap (λ n. n + 1) p.long;
  so_far = one_further B [] s m r p.read x some p.so_far q;
}

pub counted_end : {A : Type 0} (B : A → Spellings) (s m : List ℕ) (count : ℕ) → ((x : A) → B x [] → ⊥) → length m ≡ 0 → Counted B s m count → (xs : List A) × (length xs ≡ count) × Fills B s xs
counted_end B s m count never none p = let e = at_end B [] s m p.read never none p.so_far in (e.0, sym (ap length e.1) ∙ p.long, e.2)

-- what is left behind a thing of a byte or more is shorter
pub shorter : {A : Type 0} (B : A → Spellings) (m r : List ℕ) (x : A) → ((y : A) → B y [] → ⊥) → Begins B m x r → length r < length m
shorter B m r x never p = by_front p.front p.spelled p.whole
  where
    by_front : (front : List ℕ) → B x front → m ≡ front ++ r → length r < length m
    by_front [] h e = absurd (never x h)
    by_front (b ∷ front) h e = omega (arith, ap length e, length-append (b ∷ front) r)
