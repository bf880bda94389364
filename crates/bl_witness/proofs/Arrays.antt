-- A list made of an array's items, one after another.
use Rattle.std.proofs.Common.{◌≡◌, ◌∙◌, ◌<◌, ◌≤◌, ◌-◌, ap, sym, refl, arith, ℕ, List, [], ◌∷◌, ◌++◌, length, append_assoc, append-nil, Option, Some, None}
use Rattle.std.specs.Prelude.{option_and_then, option_map}
use Rattle.json.specs.Json as json
use Rattle.json.specs.Json.{Parse, after_end_array, items, parse_map}
use Rattle.json.specs.Token.{Token}
use Rattle.serde_json.specs.Data.{Data, Items, item, no_items}
use Rattle.serde_json.specs.Read.{converted, of_items, of_json}
use Rattle.bl_witness.specs.Fields.{with_one}
use Rattle.bl_witness.specs.Shapes.{each_item}
use Rattle.bl_witness.proofs.Turns.{item_lacks, item_read, items_over}

-- ---- results of the grammar

abbrev pick : {A : Type 0} → A → Option A → A
pick x None = x
pick x (Some y) = y

pub parsed : {A B : Type 0} (f : A → B) (o : Option (A × List Token)) (b : B) (r : List Token) → parse_map f o ≡ Some (b, r) → (a : A) × (o ≡ Some (a, r)) × (b ≡ f a)
parsed f None b r e = absurd (cc)
parsed f (Some (a, s)) b r e =
    let both = pair_of (f a) b s r e in
    (a, ap (λ t. Some (a, t)) both.1, sym both.0)
  where
    pair_of : {X : Type 0} (x y : X) (s t : List Token) → ◌≡◌ {A = Option (X × List Token)} (Some (x, s)) (Some (y, t)) → (x ≡ y) × (s ≡ t)
    pair_of {X = X} x y s t same = (ap (λ (o : Option (X × List Token)). (pick (x, s) o).0) same, ap (λ (o : Option (X × List Token)). (pick (x, s) o).1) same)

pub unparsed : {A B : Type 0} (f : A → B) (o : Option (A × List Token)) → parse_map f o ≡ None → o ≡ None
unparsed f None e = refl
unparsed f (Some p) e = absurd (cc)

pub mapped : {A B : Type 0} (f g : A → B) → ((a : A) → f a ≡ g a) → (o : Option (A × List Token)) → parse_map f o ≡ parse_map g o
mapped f g same None = refl
mapped f g same (Some p) = ap (λ b. Some (b, p.1)) (same p.0)

pub mapped_after : {A B C : Type 0} (f : B → C) (g : A → C) (h : A → B) → ((a : A) → f (h a) ≡ g a) → (o : Option (A × List Token)) → parse_map f (parse_map h o) ≡ parse_map g o
mapped_after f g h same None = refl
mapped_after f g h same (Some p) = ap (λ b. Some (b, p.1)) (same p.0)

-- ---- what was made so far, and what is left

module _ {A : Type 0} (f : Data → Option A) where
  abbrev pub joined : Option (List A) → Items → Option (List A)
  joined found ds = option_and_then (λ done. option_map (λ more. done ++ more) (each_item f ds)) found

  pub begins : (ds : Items) → each_item f ds ≡ joined (Some []) ds
  begins ds = by (each_item f ds)
    where
      by : {X : Type 0} (o : Option (List X)) → o ≡ option_map (λ more. [] ++ more) o
      by None = refl
      by (Some xs) = refl

  moved : (found : Option (List A)) (one : Option A) (rest : Option (List A))
      → option_and_then (λ done. option_map (λ more. done ++ more) (option_and_then (λ x. option_map (λ xs. x ∷ xs) rest) one)) found
      ≡ option_and_then (λ done. option_map (λ more. done ++ more) rest) (with_one found one)
  moved None one rest = refl
  moved (Some done) None rest = refl
  moved (Some done) (Some x) None = refl
  moved (Some done) (Some x) (Some xs) = ap Some (sym (append_assoc done (x ∷ []) xs))

  pub one_more : (found : Option (List A)) (d : Data) (ds : Items) → joined found (item d ds) ≡ joined (with_one found (f d)) ds
  one_more found d ds = moved found (f d) (each_item f ds)

  pub ended : (found : Option (List A)) → joined found no_items ≡ found
  ended None = refl
  ended (Some done) = ap Some (append-nil done)

-- ---- an array's loop

-- what is made of all items is what is made of those that are left from these tokens on
pub record ItemsLeft {B : Type 0} (all left : Items → B) (p : Parse json.Json) (start ts : List Token) : Type 0 where
  pub count : ℕ
  pub enough : length ts ≤ count
  pub same : parse_map all (converted of_items (items p (length start) start)) ≡ parse_map left (converted of_items (items p count ts))

module _ {B : Type 0} (all left : Items → B) (p : Parse json.Json) (start : List Token) where
  pub none_read : ((ds : Items) → all ds ≡ left ds) → ItemsLeft all left p start start
  none_read same = record { count = length start; enough = omega arith; same = mapped all left same _ }

  module _ (ts : List Token) (l : ItemsLeft all left p start ts) where
    pub one_read : (next : Items → B) (d : Data) (r : List Token) → ((ds : Items) → left (item d ds) ≡ next ds)
        → after_end_array ts ≡ None → converted of_json (p ts) ≡ Some (d, r) → length r < length ts → ItemsLeft all next p start r
    one_read next d r same going read less = record {
      count = l.count - 1;
      enough = omega (arith, l.enough);
      same = l.same ∙ ap (parse_map left) (item_read p l.count ts r d (omega (arith, l.enough)) going read) ∙ mapped_after left next (item d) same _;
    }

    pub not_read : after_end_array ts ≡ None → converted of_json (p ts) ≡ None → converted of_items (items p (length start) start) ≡ None
    not_read going none = unparsed all _ (l.same ∙ ap (parse_map left) (item_lacks p l.count ts going none))

    pub all_read : (r : List Token) → after_end_array ts ≡ Some r
        → (ds : Items) × (converted of_items (items p (length start) start) ≡ Some (ds, r)) × (left no_items ≡ all ds)
    all_read r over = parsed all _ (left no_items) r (l.same ∙ ap (parse_map left) (items_over p l.count ts r l.enough over))
