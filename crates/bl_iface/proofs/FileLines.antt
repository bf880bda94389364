-- The lines of an interface file, read one by one.
use Rattle.std.proofs.Common.{◌≡◌, ℕ, zero, suc, ◌+◌, ◌-◌, ◌<◌, ◌≤◌, Bool, true, false, IsTrue, List, [], ◌∷◌, ◌++◌, length, map, take, drop, get_or, Option, Some, None, slice_get, refl, sym, ap, ◌∙◌, subst, arith, append_assoc}
use Rattle.std.proofs.lemmas.Bool.{false≢true}
use Rattle.std.specs.Str.{bytes_eq}
use Rattle.std.proofs.lemmas.List.{append-nil, drop_all, drop_more, length-drop, map-append, take_all}
use Rattle.std.proofs.lemmas.List.Folds.{list_any_at}
use Rattle.std.proofs.lemmas.List.Quantifiers.{all_pairs_push}
use Rattle.std.proofs.lemmas.Option.{none-some, same_Some}
use Rattle.std.specs.Prelude.{not, option_map}
use Rattle.bl_base.specs.declared.names.Flow.{Flow}
use Rattle.bl_iface.specs.Files.{IsFirstBadLine, Say, agreed, flow_before, flow_of, function_in, letters}
use Rattle.bl_iface.specs.JoinedProgram.{is_named}
use Rattle.bl_iface.specs.declared.iface.FnIface.{FnIface}
use Rattle.bl_iface.proofs.NameLemmas.{eq_itself}

-- ---- where a list goes on

pub record GoesOn {X : Type 0} (xs : List X) (n : ℕ) (x : X) (ys : List X) : Type 0 where
  pub stands : slice_get xs n ≡ Some x
  pub rest : drop (n + 1) xs ≡ ys
  pub front : take (n + 1) xs ≡ take n xs ++ x ∷ []

pub goes_on : {X : Type 0} (xs : List X) (n : ℕ) (x : X) (ys : List X) → drop n xs ≡ x ∷ ys → GoesOn xs n x ys
goes_on [] zero x ys e = cc
goes_on [] (suc n) x ys e = cc
goes_on (z ∷ xs) zero x ys e =
    let first : z ≡ x = same_Some z x (ap (λ l. slice_get l 0) e) in
    let rest : xs ≡ ys = ap (drop 1) e in
    record { stands = ap Some first; rest = rest; front = ap (λ (k : _). k ∷ []) first }
goes_on (z ∷ xs) (suc n) x ys e =
    let further = goes_on xs n x ys e in
    let next : suc n + 1 ≡ suc (n + 1) = omega arith in
    record {
      stands = further.stands;
      rest = ap (λ k. drop k (z ∷ xs)) next ∙ further.rest;
      front = ap (λ k. take k (z ∷ xs)) next ∙ ap (λ l. z ∷ l) further.front;
    }

-- ---- one line more

-- the line behind some that say functions says another one
pub said_more : (front : List (List ℕ)) (functions : List FnIface) (line : List ℕ) (one : FnIface) → Say front functions → function_in line ≡ Some one → is_named functions one.name ≡ false
    → Say (front ++ line ∷ []) (functions ++ one ∷ [])
said_more front functions line one say is none = record {
  says = map-append function_in front (line ∷ []) ∙ ap (λ l. l ++ function_in line ∷ []) say.says ∙ ap (λ (o : Option FnIface). map Some functions ++ o ∷ []) is
      ∙ sym (map-append Some functions (one ∷ []));
  distinct = all_pairs_push (λ (a b : FnIface). a.name ≡ b.name → ⊥) functions one say.distinct (λ k d lt same.
      false≢true (sym none ∙ list_any_at (λ (x : FnIface). bytes_eq one.name x.name) functions k d lt (ap (bytes_eq one.name) same ∙ eq_itself one.name)));
}

-- of the lines of a file some are left, the first of which is read
module _ (lines : List (List ℕ)) (number : ℕ) (functions : List FnIface) (left : List (List ℕ)) (line : List ℕ) (behind : List (List ℕ)) (first : left ≡ line ∷ behind)
    (rest : left ≡ drop number lines) (say : Say (take number lines) functions) where
  on : GoesOn lines number line behind
  on = goes_on lines number line behind (sym rest ∙ first)

  pub rest_more : behind ≡ drop (number + 1) lines
  rest_more = sym on.rest

  pub bad_here : ((one : FnIface) → function_in line ≡ Some one → IsTrue (is_named functions one.name)) → IsFirstBadLine lines (number + 1)
  bad_here bad = record {
    before = number;
    functions = functions;
    line = line;
    counted = omega arith;
    say = say;
    stands = on.stands;
    bad = bad;
  }

  pub say_more : (one : FnIface) → function_in line ≡ Some one → is_named functions one.name ≡ false → Say (take (number + 1) lines) (functions ++ one ∷ [])
  say_more one is none = subst (λ l. Say l (functions ++ one ∷ [])) (sym on.front) (said_more (take number lines) functions line one say is none)

-- at first
pub say_nothing : (lines : List (List ℕ)) → Say (take 0 lines) []
say_nothing lines = record { says = refl; distinct = λ i j d less lt. absurd (omega arith) }

-- ---- letters

-- one flow more
pub letter_next : (word : List ℕ) (i : ℕ) (flows new : List Flow) (flow : Flow) → i < length word → Some flow ≡ flow_of (get_or word i 0) → new ≡ flows ++ flow ∷ []
    → letters word ≡ option_map (λ more. flows ++ more) (letters (drop i word)) → letters word ≡ option_map (λ more. new ++ more) (letters (drop (i + 1) word))
letter_next word i flows new flow lt said added so_far =
    so_far
    ∙ ap (λ w. option_map (λ more. flows ++ more) (letters w)) (drop_more word i 0 lt)
    ∙ ap (λ o. option_map (λ more. flows ++ more) (flow_before o (letters (drop (i + 1) word)))) (sym said)
    ∙ by (letters (drop (i + 1) word))
    ∙ ap (λ (n : List Flow). option_map (λ more. n ++ more) (letters (drop (i + 1) word))) (sym added)
  where
    by : (o : Option (List Flow)) → option_map (λ more. flows ++ more) (flow_before (Some flow) o) ≡ option_map (λ more. (flows ++ flow ∷ []) ++ more) o
    by None = refl
    by (Some more) = ap Some (sym (append_assoc flows (flow ∷ []) more))

-- a letter that says none
pub letter_bad : (word : List ℕ) (i : ℕ) (flows : List Flow) → i < length word → None ≡ flow_of (get_or word i 0)
    → letters word ≡ option_map (λ more. flows ++ more) (letters (drop i word)) → letters word ≡ None
letter_bad word i flows lt said so_far =
    so_far
    ∙ ap (λ w. option_map (λ more. flows ++ more) (letters w)) (drop_more word i 0 lt)
    ∙ ap (λ o. option_map (λ more. flows ++ more) (flow_before o (letters (drop (i + 1) word)))) (sym said)

-- all
pub letters_all : (word : List ℕ) (i : ℕ) (flows : List Flow) → length word ≤ i → letters word ≡ option_map (λ more. flows ++ more) (letters (drop i word)) → Some flows ≡ letters word
letters_all word i flows past so_far =
    sym (so_far ∙ ap (λ w. option_map (λ more. flows ++ more) (letters w)) (drop_all i word past) ∙ ap Some (append-nil flows))

-- the name of what is agreed
pub agreed_name : (name : List ℕ) (params results : Option (List Flow)) (one : FnIface) → agreed name params results ≡ Some one → one.name ≡ name
agreed_name name (Some params) (Some results) one e = ap (λ (x : FnIface). x.name) (sym (same_Some _ one e))
agreed_name name (Some params) None one e = absurd (none-some one e)
agreed_name name None results one e = absurd (none-some one e)

pub not_true : (b : Bool) → true ≡ not b → b ≡ false
not_true true e = absurd (false≢true (sym e))
not_true false e = refl

pub not_false : (b : Bool) → false ≡ not b → b ≡ true
not_false true e = refl
not_false false e = absurd (false≢true e)

-- no lines are left
pub say_all : (lines : List (List ℕ)) (number : ℕ) (functions : List FnIface) (left : List (List ℕ)) → left ≡ [] → left ≡ drop number lines
    → Say (take number lines) functions → Say lines functions
say_all lines number functions left none rest say =
    let count : length lines - number ≡ 0 = sym (length-drop number lines) ∙ ap length (sym rest ∙ none) in
    subst (λ l. Say l functions) (take_all number lines (omega arith)) say
