-- Tables of ends, use by use.
use Rattle.std.proofs.Common.{◌≡◌, ℕ, ◌+◌, ◌<◌, Bool, true, false, List, [], ◌∷◌, ◌++◌, length, set, sym, ap, subst, ◌∙◌, ◌⊎◌, inl, inr, Option, Some, None, replicate, length-set, slice_index, take}
use Rattle.std.specs.Prelude.{IsTrue, ◌↔◌, is_some}
use Rattle.std.specs.List.{Contains}
use Rattle.std.proofs.lemmas.Bool.{cases_eq, false≢true}
use Rattle.std.proofs.lemmas.List.{get_or-set_same, get_or-set_other, length-replicate, take_more}
use Rattle.std.proofs.lemmas.List.Elements.{Contains-push_cases, Contains-append_left, Contains-push}
use Rattle.std.proofs.lemmas.Option.{same_Some}
use Rattle.bl_base.proofs.Lists.{replicate_or}
use Rattle.bl_program.specs.declared.definitions.ProgramParts.{ProgramParts as Program}
use Rattle.bl_graph.specs.Graphs.{use_of, IsGraph}
use Rattle.bl_graph.specs.Names.{place_of}
use Rattle.bl_graph.specs.declared.facts.Graph.{Graph}
use Rattle.bl_graph.specs.declared.facts.Use.{Use}
use Rattle.bl_graph.specs.Secrets.{Demands}
use Rattle.bl_graph.specs.SecretChains.{Ends, sunk, stored, given}
use Rattle.bl_ct.specs.Facts.{AreFacts}
use Rattle.bl_ct.specs.declared.facts.Facts.{Facts}
use Rattle.bl_graph.specs.Arcs.{is_in}
use Rattle.bl_ct.specs.SecretSearch.{entry_of, mark_of, IsTable, IsNoted, AreEnds, MarksWriters, KeptAt}
use Rattle.bl_ct.proofs.NameTables.{at_name, at_others}

-- one use more
pub note_more : (names : List ℕ) (uses : List Use) (u : Use) (old new : List (Option ℕ)) → IsTable names new → Contains names u.var.0 → IsNoted names uses old new
    → IsNoted names (uses ++ u ∷ []) old (set new (place_of names u.var.0) (Some u.at.0))
note_more names uses u old new table has noted =
    let place : ℕ = place_of names u.var.0 in
    let after : List (Option ℕ) = set new place (Some u.at.0) in
    let here : entry_of names after u.var.0 ≡ Some u.at.0 = at_name names new table u.var.0 has (Some u.at.0) None in
    let apart_ : (x : ℕ) → (x ≡ u.var.0 → ⊥) → entry_of names after x ≡ entry_of names new x = λ x apart. at_others names new table u.var.0 has (Some u.at.0) None x apart in
    let still : (x : ℕ) → IsTrue (is_some (entry_of names new x)) → IsTrue (is_some (entry_of names after x)) = λ x h.
    elim (cases_eq x u.var.0) as (λ _. IsTrue (is_some (entry_of names after x))) [
      | inl e ↦ ap (λ y. is_some (entry_of names after y)) e ∙ ap is_some here
      | inr apart ↦ ap is_some (apart_ x apart) ∙ h
    ] in
    record {
      places = length-set new place (Some u.at.0) ∙ noted.places;
      sound = λ x e h. elim (cases_eq x u.var.0) as (λ _. (entry_of names old x ≡ Some e) ⊎ Contains (uses ++ u ∷ []) (use_of e x)) [
        | inl same ↦
            let at_ : u.at.0 ≡ e = same_Some u.at.0 e (sym here ∙ ap (entry_of names after) (sym same) ∙ h) in
            inr (subst (λ a. Contains (uses ++ u ∷ []) (use_of a x)) at_ (subst (λ y. Contains (uses ++ u ∷ []) (use_of u.at.0 y)) (sym same) (Contains-push uses u)))
        | inr apart ↦ elim (noted.sound x e (sym (apart_ x apart) ∙ h)) as (λ _. (entry_of names old x ≡ Some e) ⊎ Contains (uses ++ u ∷ []) (use_of e x)) [
          | inl was ↦ inl was
          | inr there ↦ inr (Contains-append_left uses (u ∷ []) (use_of e x) there)
        ]
      ];
      kept = λ x h. still x (noted.kept x h);
      full = λ x e h. elim (Contains-push_cases uses u (use_of e x) h) as (λ _. IsTrue (is_some (entry_of names after x))) [
        | inl there ↦ still x (noted.full x e there)
        | inr same ↦ ap (λ y. is_some (entry_of names after y)) (sym (ap (λ (w : Use). w.var.0) same)) ∙ ap is_some here
      ];
    }

is_none_some : (o : Option ℕ) (e : ℕ) → o ≡ None → o ≡ Some e → ⊥
is_none_some o e none some_ = false≢true (ap is_some (sym none ∙ some_))

-- the three kinds of ends together
module _ (program : Program) (graph : Graph) (is : IsGraph program graph) (facts : Facts) (are : AreFacts program facts) (names : List ℕ) where
  pub ends_are : (demanded giving : List Bool) (last : List Use) (none one two ends : List (Option ℕ))
      → ((x : ℕ) → IsTrue (mark_of names demanded x) ↔ Demands program x) → MarksWriters graph.writes names demanded giving → KeptAt graph.reads giving last
      → none ≡ replicate (length names) None → IsNoted names graph.sinks none one → IsNoted names facts.stores one two → IsNoted names last two ends
      → AreEnds program names ends
  ends_are demanded giving last none one two ends exact gives kept_ clear sinks stores reads = record {
    places = reads.places ∙ (stores.places ∙ (sinks.places ∙ (ap length clear ∙ length-replicate {A = Option ℕ} (length names) None)));
    sound = λ x e h. elim (reads.sound x e h) as (λ _. Ends program x e) [
      | inl before ↦ elim (stores.sound x e before) as (λ _. Ends program x e) [
        | inl first ↦ elim (sinks.sound x e first) as (λ _. Ends program x e) [
          | inl begun ↦ absurd (is_none_some (entry_of names none x) e (ap (λ l. entry_of names l x) clear ∙ replicate_or (length names) (place_of names x) None) begun)
          | inr there ↦ sunk ((is.sinks.each e x).0 there)
        ]
        | inr there ↦ stored ((are.stores (use_of e x)).0 there)
      ]
      | inr there ↦
          let use_ = (kept_ (use_of e x)).0 there in
          let way = (gives e).0 use_.1 in
          given way.0 ((is.reads.each e x).0 use_.0) ((is.writes.each e way.0).0 way.1) ((exact way.0).0 way.2)
    ];
    full = full_;
  } where
    full_ : (x e : ℕ) → Ends program x e → IsTrue (is_some (entry_of names ends x))
    full_ x e (sunk h) = reads.kept x (stores.kept x (sinks.full x e ((is.sinks.each e x).1 h)))
    full_ x e (stored h) = reads.kept x (stores.full x e ((are.stores (use_of e x)).1 h))
    full_ x e (given y r w d) =
        reads.full x e ((kept_ (use_of e x)).1 ((is.reads.each e x).1 r, (gives e).1 (y, (is.writes.each e y).1 w, (exact y).1 d)))

-- one use more is kept, or not
pub kept_yes : (uses : List Use) (marks : List Bool) (kept : List Use) (u : Use) → IsTrue (is_in marks u.at.0) → KeptAt uses marks kept → KeptAt (uses ++ u ∷ []) marks (kept ++ u ∷ [])
kept_yes uses marks kept u marked old v = (
  λ h. elim (Contains-push_cases kept u v h) as (λ _. Contains (uses ++ u ∷ []) v × IsTrue (is_in marks v.at.0)) [
    | inl there ↦ let both = (old v).0 there in (Contains-append_left uses (u ∷ []) v both.0, both.1)
    | inr e ↦ subst (λ w. Contains (uses ++ u ∷ []) w × IsTrue (is_in marks w.at.0)) e (Contains-push uses u, marked)
  ],
  λ both. elim (Contains-push_cases uses u v both.0) as (λ _. Contains (kept ++ u ∷ []) v) [
    | inl there ↦ Contains-append_left kept (u ∷ []) v ((old v).1 (there, both.1))
    | inr e ↦ subst (λ w. Contains (kept ++ u ∷ []) w) e (Contains-push kept u)
  ],
)

pub kept_no : (uses : List Use) (marks : List Bool) (kept : List Use) (u : Use) → is_in marks u.at.0 ≡ false → KeptAt uses marks kept → KeptAt (uses ++ u ∷ []) marks kept
kept_no uses marks kept u cold old v = (
  λ h. let both = (old v).0 h in (Contains-append_left uses (u ∷ []) v both.0, both.1),
  λ both. elim (Contains-push_cases uses u v both.0) as (λ _. Contains kept v) [
    | inl there ↦ (old v).1 (there, both.1)
    | inr e ↦ absurd (false≢true (sym cold ∙ subst (λ w. IsTrue (is_in marks w.at.0)) (sym e) both.1))
  ],
)

-- one write more
pub gives_yes : (writes : List Use) (names : List ℕ) (demanded giving : List Bool) (u : Use) → u.at.0 < length giving → IsTrue (mark_of names demanded u.var.0)
    → MarksWriters writes names demanded giving → MarksWriters (writes ++ u ∷ []) names demanded (set giving u.at.0 true)
gives_yes writes names demanded giving u within marked old s =
    let here : IsTrue (is_in (set giving u.at.0 true) u.at.0) = get_or-set_same giving u.at.0 true false within in
    let Way : Type 0 = (y : ℕ) × Contains (writes ++ u ∷ []) (use_of s y) × IsTrue (mark_of names demanded y) in
    let longer : ((y : ℕ) × Contains writes (use_of s y) × IsTrue (mark_of names demanded y)) → Way = λ w. (w.0, Contains-append_left writes (u ∷ []) (use_of s w.0) w.1, w.2) in (
      λ h. elim (cases_eq s u.at.0) as (λ _. Way) [
        | inl e ↦ (u.var.0, subst (λ a. Contains (writes ++ u ∷ []) (use_of a u.var.0)) (sym e) (Contains-push writes u), marked)
        | inr apart ↦ longer ((old s).0 (sym (get_or-set_other giving u.at.0 s true false apart) ∙ h))
      ],
      λ w. elim (cases_eq s u.at.0) as (λ _. IsTrue (is_in (set giving u.at.0 true) s)) [
        | inl e ↦ ap (is_in (set giving u.at.0 true)) e ∙ here
        | inr apart ↦ get_or-set_other giving u.at.0 s true false apart ∙ (old s).1 (elim (Contains-push_cases writes u (use_of s w.0) w.1) as (λ _. (y : ℕ) × Contains writes (use_of s y) × IsTrue (mark_of names demanded y)) [
          | inl there ↦ (w.0, there, w.2)
          | inr e ↦ absurd (apart (sym (ap (λ (v : Use). v.at.0) e)))
        ])
      ],
    )

pub gives_no : (writes : List Use) (names : List ℕ) (demanded giving : List Bool) (u : Use) → mark_of names demanded u.var.0 ≡ false → MarksWriters writes names demanded giving
    → MarksWriters (writes ++ u ∷ []) names demanded giving
gives_no writes names demanded giving u cold old s = (
  λ h. let w = (old s).0 h in (w.0, Contains-append_left writes (u ∷ []) (use_of s w.0) w.1, w.2),
  λ w. elim (Contains-push_cases writes u (use_of s w.0) w.1) as (λ _. IsTrue (is_in giving s)) [
    | inl there ↦ (old s).1 (w.0, there, w.2)
    | inr e ↦ absurd (false≢true (sym cold ∙ subst (λ y. IsTrue (mark_of names demanded y)) (sym (ap (λ (v : Use). v.var.0) e)) w.2))
  ],
)

-- one mark more
pub marked_more : (names : List ℕ) (marks : List Bool) (list : List ℕ) (i : ℕ) → i < length list → IsTable names marks → Contains names (slice_index list i)
    → ((v : ℕ) → IsTrue (mark_of names marks v) ↔ Contains (take i list) v)
    → (v : ℕ) → IsTrue (mark_of names (set marks (place_of names (slice_index list i)) true) v) ↔ Contains (take (i + 1) list) v
marked_more names marks list i lt table has exact v =
    let u : ℕ = slice_index list i in
    let more : take (i + 1) list ≡ take i list ++ u ∷ [] = take_more list i 0 lt in
    let here : IsTrue (mark_of names (set marks (place_of names u) true) u) = at_name names marks table u has true false in
    let elsewhere : (v ≡ u → ⊥) → mark_of names (set marks (place_of names u) true) v ≡ mark_of names marks v = λ apart. at_others names marks table u has true false v apart in (
      λ h. subst (λ l. Contains l v) (sym more) (elim (cases_eq v u) as (λ _. Contains (take i list ++ u ∷ []) v) [
        | inl e ↦ subst (λ w. Contains (take i list ++ u ∷ []) w) (sym e) (Contains-push (take i list) u)
        | inr apart ↦ Contains-append_left (take i list) (u ∷ []) v ((exact v).0 (sym (elsewhere apart) ∙ h))
      ]),
      λ h. elim (cases_eq v u) as (λ _. IsTrue (mark_of names (set marks (place_of names u) true) v)) [
        | inl e ↦ subst (λ w. IsTrue (mark_of names (set marks (place_of names u) true) w)) (sym e) here
        | inr apart ↦ elsewhere apart ∙ (exact v).1 (elim (Contains-push_cases (take i list) u v (subst (λ l. Contains l v) more h)) as (λ _. Contains (take i list) v) [ inl there ↦ there | inr e ↦ absurd (apart (sym e)) ])
      ],
    )

pub none_length : (ends : List (Option ℕ)) (n : ℕ) → ends ≡ replicate n None → length ends ≡ n
none_length ends n e = ap length e ∙ length-replicate {A = Option ℕ} n None
