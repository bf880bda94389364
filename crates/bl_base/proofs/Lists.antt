-- Lists whose items stand in a relation place by place, and what stands at a place.
use Rattle.std.proofs.Common.{◌≡◌, ℕ, zero, suc, ◌+◌, ◌<◌, ◌≤◌, ◌⊎◌, inl, inr, Bool, true, false, List, [], ◌∷◌, ◌++◌, length, map, take, drop, set, get_or, reverse, replicate, Option, Some, None, slice_get, unwrap_or, refl, sym, ap, ◌∙◌, subst, arith}
use Rattle.std.proofs.Math.Seq.{drop-cons}
use Rattle.std.proofs.lemmas.Bool.{cases_lt, false≢true}
use Rattle.std.proofs.lemmas.List.{reverse-reverse, append_cancel_left, take_at, get_or-replicate, get_or_past, length-replicate}
use Rattle.std.proofs.lemmas.List.Elements.{All-drop, All-get_or}
use Rattle.std.proofs.lemmas.Option.{none-some, same_Some, get_or_from_slice_get, slice_get_within, slice_get-get_or, slice_get-map, slice_get_cases, slice_get_read}
use Rattle.std.specs.Prelude.{option_map}
use Rattle.std.specs.List.{All, AllZip, filter_map, cons_option}
use mathlib.Core.List.{reverse_aux}

module _ {A B : Type 0} (R : A → B → Type 0) where
  pub zip_get : (xs : List A) (ys : List B) (i : ℕ) (x : A) → AllZip R xs ys → slice_get xs i ≡ Some x → (y : B) × (slice_get ys i ≡ Some y) × R x y
  zip_get [] [] i x h e = absurd (none-some x e)
  zip_get [] (y ∷ ys) i x h e = absurd h
  zip_get (a ∷ xs) [] i x h e = absurd h
  zip_get (a ∷ xs) (y ∷ ys) zero x h e = (y, refl, subst (λ a. R a y) (same_Some a x e) h.0)
  zip_get (a ∷ xs) (y ∷ ys) (suc i) x h e = zip_get xs ys i x h.1 e

  pub zip_set : (xs : List A) (ys : List B) (i : ℕ) (x : A) (z : B) → AllZip R xs ys → slice_get xs i ≡ Some x → R x z → AllZip R xs (set ys i z)
  zip_set [] [] i x z h e r = absurd (none-some x e)
  zip_set [] (y ∷ ys) i x z h e r = absurd h
  zip_set (a ∷ xs) [] i x z h e r = absurd h
  zip_set (a ∷ xs) (y ∷ ys) zero x z h e r = (subst (λ a. R a z) (sym (same_Some a x e)) r, h.1)
  zip_set (a ∷ xs) (y ∷ ys) (suc i) x z h e r = (h.0, zip_set xs ys i x z h.1 e r)

  pub zip_append : (xs us : List A) (ys vs : List B) → AllZip R xs ys → AllZip R us vs → AllZip R (xs ++ us) (ys ++ vs)
  zip_append [] us [] vs h i = i
  zip_append [] us (y ∷ ys) vs h i = absurd h
  zip_append (x ∷ xs) us [] vs h i = absurd h
  zip_append (x ∷ xs) us (y ∷ ys) vs h i = (h.0, zip_append xs us ys vs h.1 i)

  -- the items that belong to the first of two lists, and those of the second
  pub zip_front : (xs us : List A) (ys : List B) → AllZip R (xs ++ us) ys → AllZip R xs (take (length xs) ys)
  zip_front [] us ys h = tt
  zip_front (x ∷ xs) us [] h = absurd h
  zip_front (x ∷ xs) us (y ∷ ys) h = (h.0, zip_front xs us ys h.1)

  pub zip_back : (xs us : List A) (ys : List B) → AllZip R (xs ++ us) ys → AllZip R us (drop (length xs) ys)
  zip_back [] us ys h = h
  zip_back (x ∷ xs) us [] h = absurd h
  zip_back (x ∷ xs) us (y ∷ ys) h = zip_back xs us ys h.1

  zip_onto : (xs to : List A) (ys onto : List B) → AllZip R xs ys → AllZip R to onto → AllZip R (reverse_aux xs to) (reverse_aux ys onto)
  zip_onto [] to [] onto h i = i
  zip_onto [] to (y ∷ ys) onto h i = absurd h
  zip_onto (x ∷ xs) to [] onto h i = absurd h
  zip_onto (x ∷ xs) to (y ∷ ys) onto h i = zip_onto xs (x ∷ to) ys (y ∷ onto) h.1 (h.0, i)

  pub zip_reverse : (xs : List A) (ys : List B) → AllZip R xs ys → AllZip R (reverse xs) (reverse ys)
  zip_reverse xs ys h = zip_onto xs [] ys [] h tt

  -- the items of a list turned, turned back
  pub zip_unreverse : (xs : List A) (ys : List B) → AllZip R (reverse xs) ys → AllZip R xs (reverse ys)
  zip_unreverse xs ys h = subst (λ l. AllZip R l (reverse ys)) (reverse-reverse xs) (zip_reverse (reverse xs) ys h)

  pub zip_length : (xs : List A) (ys : List B) → AllZip R xs ys → length xs ≡ length ys
  zip_length [] [] h = refl
  zip_length [] (y ∷ ys) h = absurd h
  zip_length (x ∷ xs) [] h = absurd h
  zip_length (x ∷ xs) (y ∷ ys) h = ap suc (zip_length xs ys h.1)

  -- an item that stands with each
  pub zip_replicate : (xs : List A) (y : B) → ((x : A) → R x y) → AllZip R xs (replicate (length xs) y)
  zip_replicate [] y r = tt
  zip_replicate (x ∷ xs) y r = (r x, zip_replicate xs y r)

module _ {A B C : Type 0} (f : A → C) (R : C → B → Type 0) (S : A → B → Type 0) where
  pub zip_map : ((x : A) (y : B) → S x y → R (f x) y) → (xs : List A) (ys : List B) → AllZip S xs ys → AllZip R (map f xs) ys
  zip_map g [] [] h = tt
  zip_map g [] (y ∷ ys) h = absurd h
  zip_map g (x ∷ xs) [] h = absurd h
  zip_map g (x ∷ xs) (y ∷ ys) h = (g x y h.0, zip_map g xs ys h.1)

  pub zip_unmap : ((x : A) (y : B) → R (f x) y → S x y) → (xs : List A) (ys : List B) → AllZip R (map f xs) ys → AllZip S xs ys
  zip_unmap g [] [] h = tt
  zip_unmap g [] (y ∷ ys) h = absurd h
  zip_unmap g (x ∷ xs) [] h = absurd h
  zip_unmap g (x ∷ xs) (y ∷ ys) h = (g x y h.0, zip_unmap g xs ys h.1)

-- what stands in a list of images
pub mapped_get : {A B : Type 0} (f : A → B) (xs : List A) (i : ℕ) (y : B) → slice_get (map f xs) i ≡ Some y → (x : A) × (slice_get xs i ≡ Some x) × (f x ≡ y)
mapped_get f [] i y e = absurd (none-some y e)
mapped_get f (x ∷ xs) zero y e = (x, refl, same_Some (f x) y e)
mapped_get f (x ∷ xs) (suc i) y e = mapped_get f xs i y e

-- what holds of each item holds of the one at a place
pub all_get : {A : Type 0} (P : A → Type 0) (xs : List A) (i : ℕ) (x : A) → All P xs → slice_get xs i ≡ Some x → P x
all_get P xs i x h e = subst P (get_or_from_slice_get xs i x x e) (All-get_or P xs i x (slice_get_within xs i x e) h)

-- there is an item within
pub within_get : {A : Type 0} (xs : List A) (i : ℕ) → i < length xs → (x : A) × (slice_get xs i ≡ Some x)
within_get [] i lt = absurd (omega (arith, lt))
within_get (x ∷ xs) zero lt = (x, refl)
within_get (x ∷ xs) (suc i) lt = within_get xs i (omega (arith, lt))

module _ {A B : Type 0} (R S : A → B → Type 0) where
  pub zip_each : ((x : A) (y : B) → R x y → S x y) → (xs : List A) (ys : List B) → AllZip R xs ys → AllZip S xs ys
  zip_each g [] [] h = tt
  zip_each g [] (y ∷ ys) h = absurd h
  zip_each g (x ∷ xs) [] h = absurd h
  zip_each g (x ∷ xs) (y ∷ ys) h = (g x y h.0, zip_each g xs ys h.1)

-- the item with which one stands
pub zip_got : {A B : Type 0} (R : A → B → Type 0) (xs : List A) (ys : List B) (i : ℕ) (y : B) → AllZip R xs ys → slice_get ys i ≡ Some y → (x : A) × (slice_get xs i ≡ Some x) × R x y
zip_got R [] [] i y h e = absurd (none-some y e)
zip_got R [] (b ∷ ys) i y h e = absurd h
zip_got R (x ∷ xs) [] i y h e = absurd h
zip_got R (x ∷ xs) (b ∷ ys) zero y h e = (x, refl, subst (λ b. R x b) (same_Some b y e) h.0)
zip_got R (x ∷ xs) (b ∷ ys) (suc i) y h e = zip_got R xs ys i y h.1 e

-- items with their images
pub zip_images : {A B : Type 0} (P : A → Type 0) (R : A → B → Type 0) (f : A → B) → ((x : A) → P x → R x (f x)) → (xs : List A) → All P xs → AllZip R xs (map f xs)
zip_images P R f g [] h = tt
zip_images P R f g (x ∷ xs) h = (g x (All-get_or P (x ∷ xs) 0 x (omega arith) h), zip_images P R f g xs (All-drop P 1 (x ∷ xs) h))

-- what stands in a list with one item more: that of the list, or that item at the end
pub pushed_get : {A : Type 0} (xs : List A) (x : A) (i : ℕ) (y : A) → slice_get (xs ++ x ∷ []) i ≡ Some y → (slice_get xs i ≡ Some y) ⊎ ((i ≡ length xs) × (x ≡ y))
pushed_get [] x zero y e = inr (refl, same_Some x y e)
pushed_get [] x (suc i) y e = absurd (none-some y e)
pushed_get (z ∷ xs) x zero y e = inl e
pushed_get (z ∷ xs) x (suc i) y e = elim (pushed_get xs x i y e) as (λ _. (slice_get xs i ≡ Some y) ⊎ ((suc i ≡ suc (length xs)) × (x ≡ y))) [
  | inl before ↦ inl before
  | inr last ↦ inr (ap suc last.0, last.1)
]

-- an item's image stands where the item does
pub get_mapped : {A B : Type 0} (f : A → B) (xs : List A) (i : ℕ) (x : A) → slice_get xs i ≡ Some x → slice_get (map f xs) i ≡ Some (f x)
get_mapped f xs i x e = slice_get-map f xs i ∙ ap (option_map f) e

-- where nothing stands, the list has ended
pub past_end : {A : Type 0} (xs : List A) (i : ℕ) → slice_get xs i ≡ None → length xs ≤ i
past_end xs i e = elim ((slice_get_cases xs i).1) as (λ _. length xs ≤ i) [
  | inl within ↦ absurd (none-some within.0 (sym e ∙ within.2))
  | inr past ↦ past.0
]

-- the item of a loop
pub item_at : {A : Type 0} (xs ys : List A) (i : ℕ) (x : A) → ys ≡ xs → i < length ys → x ≡ get_or ys i x → slice_get xs i ≡ Some x
item_at xs ys i x e lt is = subst (λ l. slice_get l i ≡ Some x) e (slice_get_read ys (length ys) i x refl lt is)

-- what holds of what stands at each place holds of all items
pub all_from : {A : Type 0} (P : A → Type 0) (xs : List A) → ((i : ℕ) (x : A) → slice_get xs i ≡ Some x → P x) → All P xs
all_from P xs each k d lt = each k (get_or xs k d) (slice_get-get_or xs k d lt)

-- the item at a place is the first of those that are left there
pub rest_at : {A : Type 0} (xs : List A) (i : ℕ) (x : A) → i < length xs → x ≡ get_or xs i x → drop i xs ≡ x ∷ drop (i + 1) xs
rest_at xs i x lt is =
    let next : suc i ≡ i + 1 = omega arith in
    drop-cons xs i x lt ∙ ap (λ y. y ∷ drop (suc i) xs) (sym is) ∙ ap (λ k. x ∷ drop k xs) next

-- lists as long as each other that begin the same list are one
pub front_same : {A : Type 0} (a b u v : List A) → length a ≡ length b → a ++ u ≡ b ++ v → a ≡ b
front_same a b u v long e = sym (take_at a u (length a) refl) ∙ ap (take (length a)) e ∙ take_at b v (length a) (sym long)

-- what follows one front
pub rest_same : {A : Type 0} (a b u v : List A) → a ≡ b → a ++ u ≡ b ++ v → u ≡ v
rest_same a b u v same e = append_cancel_left a u v (e ∙ ap (λ t. t ++ v) (sym same))

-- lists that are one begin with one number
pub first_same : (a b : ℕ) (xs ys : List ℕ) → a ∷ xs ≡ b ∷ ys → a ≡ b
first_same a b xs ys e = ap (λ l. get_or l 0 0) e

-- an item that stands everywhere, or else
pub replicate_or : {A : Type 0} (n i : ℕ) (x : A) → get_or (replicate n x) i x ≡ x
replicate_or n i x =
    elim (cases_lt i n) as (λ _. get_or (replicate n x) i x ≡ x) [
      | inl lt ↦ get_or-replicate n i x x lt
      | inr past ↦ get_or_past (replicate n x) i x (let e = length-replicate n x in omega arith)
    ]

-- a mark that is set lies within
pub marked_within : (marks : List Bool) (i : ℕ) → get_or marks i false ≡ true → i < length marks
marked_within marks i h =
    elim (cases_lt i (length marks)) as (λ _. i < length marks) [
      | inl lt ↦ lt
      | inr past ↦ absurd (false≢true (sym (get_or_past marks i false past) ∙ h))
    ]

-- a filter leaves no more items
pub length-filter_map : {A B : Type 0} (f : A → Option B) (xs : List A) → length (filter_map f xs) ≤ length xs
length-filter_map f [] = omega arith
length-filter_map f (x ∷ xs) = omega (arith, one_more (f x) (filter_map f xs), length-filter_map f xs)
  where
    one_more : {B : Type 0} (o : Option B) (ys : List B) → length (cons_option o ys) ≤ length ys + 1
    one_more None ys = omega arith
    one_more (Some y) ys = omega arith

-- what is chosen by a number: an item, or the last one
pub all_chosen : {A : Type 0} (P : A → Type 0) (xs : List A) (last : A) (i : ℕ) → All P (xs ++ last ∷ []) → P (unwrap_or (slice_get xs i) last)
all_chosen P [] last i h = All-get_or P (last ∷ []) 0 last (omega arith) h
all_chosen P (x ∷ xs) last zero h = All-get_or P (x ∷ xs ++ last ∷ []) 0 last (omega arith) h
all_chosen P (x ∷ xs) last (suc i) h = all_chosen P xs last i (All-drop P 1 (x ∷ xs ++ last ∷ []) h)
