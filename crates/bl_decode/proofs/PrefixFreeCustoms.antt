-- Custom sections are prefix-free.
use Rattle.std.proofs.Common.{◌≡◌, ℕ, List, ◌++◌, length, append_assoc, ap, ap₂, sym, ◌∙◌, subst}
use Rattle.bl_base.proofs.Lists.{front_same, rest_same}
use Rattle.bl_leb.specs.Grammar.{Spellings, ◌⨾◌, exactly}
use Rattle.bl_wasm.specs.Values.{name, sized}
use Rattle.bl_wasm.specs.Sections.{custom_section}
use Rattle.bl_wasm.specs.declared.module.CustomSection.{CustomSection}
use Rattle.bl_code.specs.Unique.{Same, PrefixFree}
use Rattle.bl_code.proofs.Unique.{byte_same, seq_same, u32_same, name_prefix_free}
use Rattle.bl_decode.specs.Chains.{Begins}

-- what stands behind a size, by all of it
pub sized_whole : {S T : Spellings} {P : Type 0} → ((t : List ℕ) → S t → T t → P) → Same (sized S) (sized T) P
sized_whole {S} f = record {
  both = λ a b u v p q e.
      let whole : p.size ++ (p.contents ++ u) ≡ q.size ++ (q.contents ++ v)
      = sym (append_assoc p.size p.contents u) ∙ ap (λ t. t ++ u) (sym p.whole) ∙ e ∙ ap (λ t. t ++ v) q.whole ∙ append_assoc q.size q.contents v in
      let sizes = (u32_same (length p.contents) (length q.contents)).both p.size q.size (p.contents ++ u) (q.contents ++ v) p.counted q.counted whole in
      let contents = front_same p.contents q.contents u v sizes.1 (rest_same p.size q.size (p.contents ++ u) (q.contents ++ v) sizes.0 whole) in
      (p.whole ∙ ap (λ t. t ++ p.contents) sizes.0 ∙ ap (λ t. q.size ++ t) contents ∙ sym q.whole, f q.contents (subst S contents p.spelled) q.spelled);
}

same_custom : (c d : CustomSection) → c.name ≡ d.name → c.bytes ≡ d.bytes → c ≡ d
same_custom c d p q = ap₂ made p q
  where
    made : List ℕ → List ℕ → CustomSection
    made n b = record { name = n; bytes = b }

contents_one : (c d : CustomSection) (t : List ℕ) → (name c.name ⨾ exactly c.bytes) t → (name d.name ⨾ exactly d.bytes) t → c ≡ d
contents_one c d t p q =
    let whole : p.front ++ p.rest ≡ q.front ++ q.rest = sym p.whole ∙ q.whole in
    let names = (name_prefix_free.same c.name d.name).both p.front q.front p.rest q.rest p.first q.first whole in
    let rests = rest_same p.front q.front p.rest q.rest names.0 whole in
    same_custom c d names.1 (sym p.second ∙ rests ∙ q.second)

pub custom_prefix_free : PrefixFree custom_section
custom_prefix_free = record { same = λ c d. seq_same (byte_same 0 0) (λ zero. sized_whole (contents_one c d)) }

pub custom_begins : (c : CustomSection) (front : List ℕ) → custom_section c front → Begins 0 front
custom_begins c front h = record { behind = h.rest; whole = h.whole ∙ ap (λ t. t ++ h.rest) h.first }
