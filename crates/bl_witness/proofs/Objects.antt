-- What an object is, by the last value of each key.
use Rattle.std.proofs.Common.{◌≡◌, ◌∙◌, ◌^◌, ◌==◌, ap, sym, refl, ℕ, Bool, true, false, not, List, Option, Some, None, bytes_eq, arith, codes, eq-eqb, ne_eqb, is_some, cond, subst}
use Rattle.std.specs.Prelude.{if◌then◌else◌, option_and_then, option_map}
use Rattle.std.proofs.lemmas.Slice.Eq.{bytes_eq-Decides}
use Rattle.serde_json.specs.Data.{Data, Members, no_members, object, put}
use Rattle.serde_json.specs.Events.{members_len}
use Rattle.serde_json.specs.Find.{get_member}
use Rattle.serde_json.proofs.Views.{get_member-put, get_member-put_other}
use Rattle.bl_witness.specs.Fields.{IsCertificateMembers, IsPathMembers, certificate_from, certificate_keys, has_others, is_one_of, path_from, path_keys, with_certificate_member, with_path_member}
use Rattle.bl_witness.specs.Shapes.{certificate_of, field, list_of, path_of, position_of, whole_below}
use Rattle.bl_graph.specs.declared.certificate.Certificate.{Certificate}
use Rattle.bl_graph.specs.declared.certificate.FlowPath.{FlowPath}
use Rattle.bl_witness.specs.declared.fields.CertificateFields.{CertificateFields}
use Rattle.bl_witness.specs.declared.fields.PathFields.{PathFields}
use Rattle.bl_witness.proofs.Members.{Counted, counted, others_put, rise_put}

-- ---- a member more

put_here : {A : Type 0} (f : Data → Option A) (key k : List ℕ) (d : Data) (ms : Members) → bytes_eq k key ≡ true → field key f (object (put k d ms)) ≡ f d
put_here f key k d ms is =
    let same : k ≡ key = (bytes_eq-Decides k key).0 is in
    ap (λ name. option_and_then f (get_member key (put name d ms))) same ∙ ap (option_and_then f) (get_member-put key d ms)

apart : (k key : List ℕ) → bytes_eq k key ≡ false → key ≡ k → ⊥
apart k key is same =
    let twin : bytes_eq k key ≡ true = (bytes_eq-Decides k key).1 (sym same) in
    cc

put_other : {A : Type 0} (f : Data → Option A) (key k : List ℕ) (d : Data) (ms : Members) → bytes_eq k key ≡ false → field key f (object (put k d ms)) ≡ field key f (object ms)
put_other f key k d ms is = ap (option_and_then f) (get_member-put_other key k d ms (apart k key is))

differs : (k key other : List ℕ) → bytes_eq k key ≡ true → bytes_eq key other ≡ false → bytes_eq k other ≡ false
differs k key other is apart = ap (λ name. bytes_eq name other) ((bytes_eq-Decides k key).0 is) ∙ apart

module _ (k : List ℕ) (d : Data) (ms : Members) where
  known : (keys : List (List ℕ)) (key : List ℕ) → bytes_eq k key ≡ true → is_one_of keys key ≡ true → has_others keys ms ≡ has_others keys (put k d ms)
  known keys key is one = sym (others_put keys k d ms ∙ ap (λ b. if b then has_others keys ms else true) (ap (is_one_of keys) ((bytes_eq-Decides k key).0 is) ∙ one))

  unknown : (keys : List (List ℕ)) → is_one_of keys k ≡ false → true ≡ has_others keys (put k d ms)
  unknown keys other = sym (others_put keys k d ms ∙ ap (λ b. if b then has_others keys ms else true) other)

  abbrev stays : {A : Type 0} (f : Data → Option A) (key : List ℕ) → bytes_eq k key ≡ false → field key f (object ms) ≡ field key f (object (put k d ms))
  stays f key other = sym (put_other f key k d ms other)

  abbrev set : {A : Type 0} (f : Data → Option A) (key : List ℕ) → bytes_eq k key ≡ true → f d ≡ field key f (object (put k d ms))
  set f key is = sym (put_here f key k d ms is)

  abbrev amount : List ℕ
  amount = codes "amount"

  abbrev sink : List ℕ
  sink = codes "sink"

  abbrev sites : List ℕ
  sites = codes "sites"

  module _ (fields : PathFields) (is : IsPathMembers ms fields) where
    abbrev Path : Bool → Bool → Bool → Type 0
    Path a s t =
        IsPathMembers (put k d ms)
        (if a then record { amount = whole_below (2 ^ 64) d; sink = fields.sink; sites = fields.sites; others = fields.others }
        else if s then record { amount = fields.amount; sink = position_of d; sites = fields.sites; others = fields.others }
        else if t then record { amount = fields.amount; sink = fields.sink; sites = list_of position_of d; others = fields.others }
        else record { amount = fields.amount; sink = fields.sink; sites = fields.sites; others = true })

    path_step : (a s t : Bool) → bytes_eq k amount ≡ a → bytes_eq k sink ≡ s → bytes_eq k sites ≡ t → Path a s t
    path_step true s t ea es et = record {
      rise = rise_put k d ms is.rise;
      amount = set (whole_below (2 ^ 64)) amount ea;
      sink = is.sink ∙ stays position_of sink (differs k amount sink ea refl);
      sites = is.sites ∙ stays (list_of position_of) sites (differs k amount sites ea refl);
      others = is.others ∙ known path_keys amount ea refl;
    }
    path_step false true t ea es et = record {
      rise = rise_put k d ms is.rise;
      amount = is.amount ∙ stays (whole_below (2 ^ 64)) amount ea;
      sink = set position_of sink es;
      sites = is.sites ∙ stays (list_of position_of) sites (differs k sink sites es refl);
      others = is.others ∙ known path_keys sink es refl;
    }
    path_step false false true ea es et = record {
      rise = rise_put k d ms is.rise;
      amount = is.amount ∙ stays (whole_below (2 ^ 64)) amount ea;
      sink = is.sink ∙ stays position_of sink es;
      sites = set (list_of position_of) sites et;
      others = is.others ∙ known path_keys sites et refl;
    }
    path_step false false false ea es et = record {
      rise = rise_put k d ms is.rise;
      amount = is.amount ∙ stays (whole_below (2 ^ 64)) amount ea;
      sink = is.sink ∙ stays position_of sink es;
      sites = is.sites ∙ stays (list_of position_of) sites et;
      others = unknown path_keys (rw (ea, es, et) refl);
    }

    pub path_member : IsPathMembers (put k d ms) (with_path_member k d fields)
    path_member = path_step (bytes_eq k amount) (bytes_eq k sink) (bytes_eq k sites) refl refl refl

  abbrev paths : List ℕ
  paths = codes "paths"

  abbrev weight : List ℕ
  weight = codes "weight"

  module _ (fields : CertificateFields) (is : IsCertificateMembers ms fields) where
    abbrev Whole : Bool → Bool → Type 0
    Whole p w =
        IsCertificateMembers (put k d ms)
        (if p then record { paths = list_of path_of d; weight = fields.weight; others = fields.others }
        else if w then record { paths = fields.paths; weight = whole_below (2 ^ 64) d; others = fields.others }
        else record { paths = fields.paths; weight = fields.weight; others = true })

    certificate_step : (p w : Bool) → bytes_eq k paths ≡ p → bytes_eq k weight ≡ w → Whole p w
    certificate_step true w ep ew = record {
      rise = rise_put k d ms is.rise;
      paths = set (list_of path_of) paths ep;
      weight = is.weight ∙ stays (whole_below (2 ^ 64)) weight (differs k paths weight ep refl);
      others = is.others ∙ known certificate_keys paths ep refl;
    }
    certificate_step false true ep ew = record {
      rise = rise_put k d ms is.rise;
      paths = is.paths ∙ stays (list_of path_of) paths ep;
      weight = set (whole_below (2 ^ 64)) weight ew;
      others = is.others ∙ known certificate_keys weight ew refl;
    }
    certificate_step false false ep ew = record {
      rise = rise_put k d ms is.rise;
      paths = is.paths ∙ stays (list_of path_of) paths ep;
      weight = is.weight ∙ stays (whole_below (2 ^ 64)) weight ew;
      others = unknown certificate_keys (rw (ep, ew) refl);
    }

    pub certificate_member : IsCertificateMembers (put k d ms) (with_certificate_member k d fields)
    certificate_member = certificate_step (bytes_eq k paths) (bytes_eq k weight) refl refl

-- ---- all members

some_member : {A : Type 0} (f : Data → Option A) (o : Option Data) (a : A) → option_and_then f o ≡ Some a → ◌≡◌ {A = ℕ} (cond (is_some o) 1 0) 1
some_member f None a e = absurd (cc)
some_member f (Some d) a e = refl

same_len : (others : Bool) (len n : ℕ) → Counted others len n → (len == n) ≡ not others
same_len true len n more = ne_eqb len n (λ e. omega (arith, more))
same_len false len n same = eq-eqb len n same

nothing : {A : Type 0} (a b : Bool) → ◌≡◌ {A = Option A} (if a then None else None) (if b then None else None)
nothing true true = refl
nothing true false = refl
nothing false true = refl
nothing false false = refl

either : {A : Type 0} (others whole : Bool) (found : Option A) → ((a : A) → found ≡ Some a → whole ≡ not others) → (if others then None else found) ≡ (if whole then found else None)
either others whole None h = nothing others whole
either true whole (Some a) h = rw (h a refl) refl
either false whole (Some a) h = rw (h a refl) refl

three : {A B C D : Type 0} (make : A → B → C → D) (a : Option A) (b : Option B) (c : Option C) (found : D)
    → option_and_then (λ x. option_and_then (λ y. option_map (λ z. make x y z) c) b) a ≡ Some found
    → ((x : A) × (a ≡ Some x)) × ((y : B) × (b ≡ Some y)) × ((z : C) × (c ≡ Some z))
three make None b c found e = absurd (cc)
three make (Some x) None c found e = absurd (cc)
three make (Some x) (Some y) None found e = absurd (cc)
three make (Some x) (Some y) (Some z) found e = ((x, refl), (y, refl), (z, refl))

two : {A B D : Type 0} (make : A → B → D) (a : Option A) (b : Option B) (found : D)
    → option_and_then (λ x. option_map (λ y. make x y) b) a ≡ Some found → ((x : A) × (a ≡ Some x)) × ((y : B) × (b ≡ Some y))
two make None b found e = absurd (cc)
two make (Some x) None found e = absurd (cc)
two make (Some x) (Some y) found e = ((x, refl), (y, refl))

len_is : (others : Bool) (len n m : ℕ) → Counted others len n → n ≡ m → (len == m) ≡ not others
len_is others len n m h e = same_len others len m (subst (Counted others len) e h)

module _ (ms : Members) where
  pub path_is : (fields : PathFields) → IsPathMembers ms fields → path_from fields ≡ path_of (object ms)
  path_is fields is = rw (is.amount, is.sink, is.sites, is.others) (either (has_others path_keys ms) (members_len ms == 3) _ whole)
    where
      whole : (path : FlowPath)
          → option_and_then (λ amount. option_and_then (λ sink. option_map (λ sites. record { sites = sites; sink = sink; amount = amount })
          (field (codes "sites") (list_of position_of) (object ms))) (field (codes "sink") position_of (object ms))) (field (codes "amount") (whole_below (2 ^ 64)) (object ms)) ≡ Some path
          → (members_len ms == 3) ≡ not (has_others path_keys ms)
      whole path e =
          let there = three (λ amount sink sites. record { sites = sites; sink = sink; amount = amount }) (field (codes "amount") (whole_below (2 ^ 64)) (object ms)) (field (codes "sink") position_of (object ms)) (field (codes "sites") (list_of position_of) (object ms)) path e in
          let a = some_member (whole_below (2 ^ 64)) (get_member (codes "amount") ms) there.0.0 there.0.1 in
          let s = some_member position_of (get_member (codes "sink") ms) there.1.0 there.1.1 in
          let t = some_member (list_of position_of) (get_member (codes "sites") ms) there.2.0 there.2.1 in
          len_is (has_others path_keys ms) (members_len ms) _ 3 (counted path_keys (refl, (refl, (refl, tt))) ms is.rise) (rw (a, s, t) refl)

  pub certificate_is : (fields : CertificateFields) → IsCertificateMembers ms fields → certificate_from fields ≡ certificate_of (object ms)
  certificate_is fields is = rw (is.paths, is.weight, is.others) (either (has_others certificate_keys ms) (members_len ms == 2) _ whole)
    where
      whole : (c : Certificate)
          → option_and_then (λ paths. option_map (λ weight. record { paths = paths; weight = weight }) (field (codes "weight") (whole_below (2 ^ 64)) (object ms))) (field (codes "paths") (list_of path_of) (object ms)) ≡ Some c
          → (members_len ms == 2) ≡ not (has_others certificate_keys ms)
      whole c e =
          let there = two (λ paths weight. record { paths = paths; weight = weight }) (field (codes "paths") (list_of path_of) (object ms)) (field (codes "weight") (whole_below (2 ^ 64)) (object ms)) c e in
          let p = some_member (list_of path_of) (get_member (codes "paths") ms) there.0.0 there.0.1 in
          let w = some_member (whole_below (2 ^ 64)) (get_member (codes "weight") ms) there.1.0 there.1.1 in
          len_is (has_others certificate_keys ms) (members_len ms) _ 2 (counted certificate_keys (refl, (refl, tt)) ms is.rise) (rw (p, w) refl)

-- nothing is read so far
pub no_path_members : IsPathMembers no_members (record { amount = None; sink = None; sites = None; others = false })
no_path_members = record { rise = tt; amount = refl; sink = refl; sites = refl; others = refl }

pub no_certificate_members : IsCertificateMembers no_members (record { paths = None; weight = None; others = false })
no_certificate_members = record { rise = tt; paths = refl; weight = refl; others = refl }
