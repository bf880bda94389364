-- What bytes begin with.
use Rattle.std.proofs.Common.{◌≡◌, ℕ, suc, ◌+◌, ◌-◌, ◌<◌, List, [], ◌∷◌, ◌++◌, length, ap, sym, ◌∙◌, arith, drop, drop-cons, get_or, add-zero, length-drop, slice_get, Some}
use Rattle.std.proofs.lemmas.List.{get_or-drop}
use Rattle.std.proofs.lemmas.Option.{slice_get_within, get_or_from_slice_get, slice_get-get_or}
use Rattle.bl_leb.specs.Grammar.{Spellings}
use Rattle.bl_wasm.specs.Sections.{section}
use Rattle.bl_decode.specs.Chains.{Begins}

-- bytes begin with one byte
pub one_first : (m n : ℕ) (bytes : List ℕ) → Begins m bytes → Begins n bytes → m ≡ n
one_first m n bytes p q = let both : m ∷ p.behind ≡ n ∷ q.behind = sym p.whole ∙ q.whole in cc

-- what begins a front begins the whole
pub begins_all : (n : ℕ) (front rest bytes : List ℕ) → bytes ≡ front ++ rest → Begins n front → Begins n bytes
begins_all n front rest bytes e h = record { behind = h.behind ++ rest; whole = e ∙ ap (λ t. t ++ rest) h.whole }

-- what a whole begins with, where its front is empty
pub begins_rest : (n : ℕ) (front rest bytes : List ℕ) → bytes ≡ front ++ rest → front ≡ [] → Begins n bytes → Begins n rest
begins_rest n front rest bytes e empty h = record { behind = h.behind; whole = sym (e ∙ ap (λ t. t ++ rest) empty) ∙ h.whole }

-- a byte at a place
pub begins_at : (bytes : List ℕ) (place n : ℕ) → slice_get bytes place ≡ Some n → Begins n (drop place bytes)
begins_at bytes place n h =
    let within = slice_get_within bytes place n h in
    record { behind = drop (suc place) bytes; whole = drop-cons bytes place n within ∙ ap (λ b. b ∷ drop (suc place) bytes) (get_or_from_slice_get bytes place n n h) }

pub at_begins : (bytes : List ℕ) (place n : ℕ) → Begins n (drop place bytes) → slice_get bytes place ≡ Some n
at_begins bytes place n h =
    let long : length bytes - place ≡ 1 + length h.behind = sym (length-drop place bytes) ∙ ap length h.whole ∙ omega arith in
    let within : place < length bytes = omega arith in
    let byte : get_or bytes place n ≡ n = ap (λ i. get_or bytes i n) (sym (add-zero place)) ∙ sym (get_or-drop place bytes 0 n) ∙ ap (λ l. get_or l 0 n) h.whole in
    slice_get-get_or bytes place n within ∙ ap Some byte

-- a section
pub section_begins : (id : ℕ) (S : Spellings) (front : List ℕ) → section id S front → Begins id front
section_begins id S front h = record { behind = h.rest; whole = h.whole ∙ ap (λ t. t ++ h.rest) h.first }
