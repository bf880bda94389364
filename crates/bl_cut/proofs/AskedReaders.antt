-- The sites that read one of some variables, one read at a time.
use Rattle.std.proofs.Common.{◌≡◌, ℕ, ◌+◌, ◌<◌, Bool, true, false, List, [], ◌∷◌, ◌++◌, length, map, take, Some, slice_get, sym, ap, subst, ◌∙◌, inl, inr, ◌⊎◌}
use Rattle.std.specs.List.{All, Contains, slice_index_or}
use Rattle.std.specs.Prelude.{◌↔◌}
use Rattle.std.proofs.lemmas.Bool.{false≢true}
use Rattle.std.proofs.lemmas.List.{take_more}
use Rattle.std.proofs.lemmas.List.Elements.{Contains-append_cases, Contains-append_left, Contains-append_right, Contains-push, Contains-push_cases}
use Rattle.std.proofs.lemmas.Option.{same_Some}
use Rattle.bl_base.specs.declared.number.Pos.{Pos}
use Rattle.bl_base.proofs.Members.{none_in}
use Rattle.bl_graph.specs.Arcs.{is_in}
use Rattle.bl_graph.specs.Graphs.{use_of}
use Rattle.bl_graph.specs.Names.{place_of}
use Rattle.bl_graph.specs.declared.facts.Graph.{Graph}
use Rattle.bl_graph.specs.declared.facts.Use.{Use}
use Rattle.bl_graph.proofs.NameLemmas.{Rise}
use Rattle.bl_graph.proofs.AskedLists.{Marks, number_back, number_of}
use Rattle.bl_cut.specs.Network.{AreReaders, Begins, ReadsOne, var_node}

module _ (old vars : List ℕ) where
  pub readers_none : AreReaders old [] vars old
  readers_none s = ((λ h. inl h), (λ h. elim h as (λ _. Contains old s) [ inl there ↦ there | inr one ↦ absurd (none_in (use_of s one.0) one.1) ]))

  module _ (reads : List Use) (u : Use) where
    longer : (s : ℕ) → ReadsOne reads vars s → ReadsOne (reads ++ u ∷ []) vars s
    longer s one = (one.0, Contains-append_left reads (u ∷ []) (use_of s one.0) one.1, one.2)

    -- one read more, of another variable
    pub readers_no : (nodes : List ℕ) → AreReaders old reads vars nodes → (Contains vars u.var.0 → ⊥) → AreReaders old (reads ++ u ∷ []) vars nodes
    readers_no nodes so_far other s = (
      (λ h. elim ((so_far s).0 h) as (λ _. Contains old s ⊎ ReadsOne (reads ++ u ∷ []) vars s) [ inl there ↦ inl there | inr one ↦ inr (longer s one) ]),
      (λ h. elim h as (λ _. Contains nodes s) [
        | inl there ↦ (so_far s).1 (inl there)
        | inr one ↦ elim (Contains-push_cases reads u (use_of s one.0) one.1) as (λ _. Contains nodes s) [
          | inl before ↦ (so_far s).1 (inr (one.0, before, one.2))
          | inr last ↦ absurd (other (subst (Contains vars) (sym (ap (λ (w : Use). w.var.0) last)) one.2))
        ]
      ]),
    )

    -- one read more, of one of the variables
    pub readers_yes : (nodes : List ℕ) → AreReaders old reads vars nodes → Contains vars u.var.0 → AreReaders old (reads ++ u ∷ []) vars (nodes ++ u.at.0 ∷ [])
    readers_yes nodes so_far is s = (
      (λ h. elim (Contains-push_cases nodes u.at.0 s h) as (λ _. Contains old s ⊎ ReadsOne (reads ++ u ∷ []) vars s) [
        | inl before ↦ elim ((so_far s).0 before) as (λ _. Contains old s ⊎ ReadsOne (reads ++ u ∷ []) vars s) [ inl there ↦ inl there | inr one ↦ inr (longer s one) ]
        | inr last ↦ inr (u.var.0, subst (λ t. Contains (reads ++ u ∷ []) (use_of t u.var.0)) last (Contains-push reads u), is)
      ]),
      (λ h. elim h as (λ _. Contains (nodes ++ u.at.0 ∷ []) s) [
        | inl there ↦ Contains-append_left nodes (u.at.0 ∷ []) s ((so_far s).1 (inl there))
        | inr one ↦ elim (Contains-push_cases reads u (use_of s one.0) one.1) as (λ _. Contains (nodes ++ u.at.0 ∷ []) s) [
          | inl before ↦ Contains-append_left nodes (u.at.0 ∷ []) s ((so_far s).1 (inr (one.0, before, one.2)))
          | inr last ↦ subst (Contains (nodes ++ u.at.0 ∷ [])) (ap (λ (w : Use). w.at.0) last) (Contains-push nodes u.at.0)
        ]
      ]),
    )

-- ---- variables by marks at their numbers

module _ (names : List ℕ) (rise : Rise names) (vars : List ℕ) (has : All (λ x. Contains names x) vars) (marks : List Bool) (exact : Marks (map (place_of names) vars) marks) where
  marked_var : (k x : ℕ) → slice_get names k ≡ Some x → is_in marks k ≡ true → Contains vars x
  marked_var k x at e = let back = number_back names rise vars has k ((exact k).0 e) in subst (Contains vars) (same_Some back.0 x (sym back.1 ∙ at)) back.2

  unmarked_var : (k x : ℕ) → slice_get names k ≡ Some x → is_in marks k ≡ false → Contains vars x → ⊥
  unmarked_var k x at e h = false≢true (sym e ∙ (exact k).1 (number_of names rise vars has k x at h))

  module _ (old nodes : List ℕ) (reads : List Use) (i k : ℕ) (d : Use) (lt : i < length reads) (at : slice_get names k ≡ Some (slice_index_or reads i d).var.0)
      (so_far : AreReaders old (take i reads) vars nodes) where
    more : take i reads ++ slice_index_or reads i d ∷ [] ≡ take (i + 1) reads
    more = sym (take_more reads i d lt)

    pub next_marked : is_in marks k ≡ true → AreReaders old (take (i + 1) reads) vars (nodes ++ (slice_index_or reads i d).at.0 ∷ [])
    next_marked e =
        subst (λ l. AreReaders old l vars (nodes ++ (slice_index_or reads i d).at.0 ∷ [])) more
        (readers_yes old vars (take i reads) (slice_index_or reads i d) nodes so_far (marked_var k (slice_index_or reads i d).var.0 at e))

    pub next_unmarked : is_in marks k ≡ false → AreReaders old (take (i + 1) reads) vars nodes
    next_unmarked e =
        subst (λ l. AreReaders old l vars nodes) more
        (readers_no old vars (take i reads) (slice_index_or reads i d) nodes so_far (unmarked_var k (slice_index_or reads i d).var.0 at e))

-- ---- all nodes at which walks begin

module _ (names : List ℕ) (n : ℕ) (g : Graph) (vars first nodes : List ℕ) (loads_are : first ≡ map (λ (load : Pos). load.0) g.loads) (readers : AreReaders first g.reads vars nodes) where
  kept_in : (s : ℕ) → Begins names n g vars s → Contains (nodes ++ map (var_node names n) vars) s
  kept_in s (inl (inl load)) = Contains-append_left nodes (map (var_node names n) vars) s ((readers s).1 (inl (subst (λ l. Contains l s) (sym loads_are) load)))
  kept_in s (inl (inr one)) = Contains-append_left nodes (map (var_node names n) vars) s ((readers s).1 (inr one))
  kept_in s (inr node) = Contains-append_right nodes (map (var_node names n) vars) s node

  kind_of : (s : ℕ) → Contains (nodes ++ map (var_node names n) vars) s → Begins names n g vars s
  kind_of s h = elim (Contains-append_cases nodes (map (var_node names n) vars) s h) as (λ _. Begins names n g vars s) [
    | inl before ↦ elim ((readers s).0 before) as (λ _. Begins names n g vars s) [ inl load ↦ inl (inl (subst (λ l. Contains l s) loads_are load)) | inr one ↦ inl (inr one) ]
    | inr node ↦ inr node
  ]

  pub begins : (whole : List ℕ) → whole ≡ nodes ++ map (var_node names n) vars → (s : ℕ) → Contains whole s ↔ Begins names n g vars s
  begins whole e s = ((λ h. kind_of s (subst (λ l. Contains l s) e h)), (λ h. subst (λ l. Contains l s) (sym e) (kept_in s h)))
