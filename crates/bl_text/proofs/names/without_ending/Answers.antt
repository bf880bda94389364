use Rattle.std.proofs.Common.{◌≡◌, ◌≢◌, ◌∙◌, ap, sym, ℕ, ◌-◌, ◌++◌, List, length, take, drop, codes, inl, inr}
use Rattle.std.specs.Str.{bytes_eq}
use Rattle.std.proofs.lemmas.Bool.{cases_Bool, cond-false}
use Rattle.std.proofs.lemmas.List.{take-append-drop}
use Rattle.std.proofs.lemmas.Slice.Eq.{bytes_eq-Decides}
use Rattle.bl_text.specs.Names.{without_ending as name_without_ending}
use Rattle.bl_text.proofs.names.without_ending.Goals as goal

stays : (name : List ℕ) → ((front : List ℕ) → name ≢ front ++ codes ".wasm") → name ≡ name_without_ending name
stays name other =
    let at = length name - 5 in
    elim (cases_Bool (bytes_eq (drop at name) (codes ".wasm"))) [
      | inl same ↦ absurd (other (take at name) (sym (take-append-drop at name) ∙ ap (λ ending. take at name ++ ending) ((bytes_eq-Decides (drop at name) (codes ".wasm")).0 same)))
      | inr differs ↦ sym (cond-false _ _ _ differs)
    ]

pub returns-in-None : goal.returns-in-None
returns-in-None c = stays c.args.name.now c.in-None.ensures.cases
