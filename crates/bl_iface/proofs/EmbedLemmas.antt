-- A part that stands in a whole program: rules 4 to 8, which its commands keep there as they do in the part.
use Rattle.std.proofs.Common.{◌≡◌, ◌≢◌, ◌⊎◌, inl, inr, ℕ, suc, ◌<◌, ◌≤◌, List, [], ◌∷◌, length, map, Option, Some, None, slice_get, refl, sym, ap, ◌∙◌, subst, arith}
use Rattle.std.specs.Prelude.{IfSome, option_map}
use Rattle.std.proofs.lemmas.Bool.{cases_lt}
use Rattle.bl_base.specs.declared.number.Var.{Var as Var'}
use Rattle.bl_ops.specs.declared.op.Op.{Op}
use Rattle.bl_ops.specs.declared.op.Op.TheVariants.{I32Sub, I32GtU, Move, Outside}
use Rattle.bl_program.specs.Layout.{statics, size_of, params_of, results_of, entry_of, command_at, Holds}
use Rattle.bl_program.specs.Rules.{GoesTo, IsGrowth, IsGuarded, IsLocal, IsPassed, IsReadable, IsSum, IsTested, IsWritable, Leaves, Reach, Rule4, Rule5, Rule6, Rule7, Rule8, assigned_by, operands_of, variable}
use Rattle.bl_program.specs.Sites.{Among, Names}
use Rattle.bl_program.specs.declared.command.Command.{Command}
use Rattle.bl_program.specs.declared.command.Command.TheVariants.{Set, Load, Store, Test, Jump, Arg, Call, Out}
use Rattle.bl_program.specs.declared.command.Operand.{Operand}
use Rattle.bl_program.specs.declared.command.Operand.TheVariants.{Var, Const}
use Rattle.bl_program.specs.declared.definitions.MemoryDef.{MemoryDef}
use Rattle.bl_program.specs.declared.definitions.ProgramParts.{ProgramParts as Program}
use Rattle.bl_iface.specs.JoinedProgram.{Renaming, operand_by, renamed}

-- a part stands in a whole: its functions, its positions and its variables by their new numbers
pub record Embeds (part whole : Program) (n : Renaming) (own : ℕ → ℕ) : Type 0 where
  -- functions
  pub exists : (f : ℕ) → f < length part.functions → own f < length whole.functions
  pub results : (f : ℕ) → f < length part.functions → results_of whole (own f) ≡ results_of part f
  pub callee : (g : ℕ) → g < length part.functions → (n.callee g < length whole.functions) × (params_of whole (n.callee g) ≡ params_of part g)
  -- positions
  pub trap : (p : ℕ) → p < 7 → n.position p < 7
  pub holds : (f p : ℕ) → Holds part f p → Holds whole (own f) (n.position p)
  pub next : (f p : ℕ) → Holds part f p → n.position (suc p) ≡ suc (n.position p)
  pub last : (f p : ℕ) → Holds part f p → suc (n.position p) ≡ entry_of whole (suc (own f)) → suc p ≡ entry_of part (suc f)
  pub same : (f p q : ℕ) → Holds part f p → n.position q ≡ n.position p → q ≡ p
  pub command : (f p : ℕ) (c : Command) → Holds part f p → command_at part p ≡ Some c → command_at whole (n.position p) ≡ Some (renamed n c)
  -- what is entered or gone to in the part is so from the part alone
  pub enters : (f p g : ℕ) → Holds part f p → g < length whole.functions → entry_of whole g ≡ n.position p
      → (h : ℕ) × (h < length part.functions) × (entry_of part h ≡ p)
  pub comes : (f p from : ℕ) (c : Command) → Holds part f p → command_at whole from ≡ Some c → GoesTo c (n.position p)
      → (start : ℕ) × (d : Command) × (from ≡ n.position start) × (command_at part start ≡ Some d) × GoesTo d p
  -- variables
  pub readable : (f x : ℕ) → f < length part.functions → IsReadable part f x → IsReadable whole (own f) (n.read x)
  pub local : (f x : ℕ) → IsLocal part f x → IsLocal whole (own f) (n.write x)
  pub static : (x : ℕ) → x < statics part → n.write x < statics whole
  pub plain : (f x : ℕ) → IsWritable part f x → n.read x ≡ n.write x
  pub apart : (f x t : ℕ) → IsReadable part f x → IsLocal part f t → n.read x ≡ n.write t → x ≡ t
  pub size : (m : ℕ) → m < length part.memories → n.write (size_of part m) ≡ size_of whole (n.memory m)
  pub no_size : (f x m : ℕ) → IsWritable part f x → m < length whole.memories → n.write x ≡ size_of whole m
      → (k : ℕ) × (k < length part.memories) × (x ≡ size_of part k) × (n.memory k ≡ m)
  -- memories
  pub memory : (m : ℕ) → m < length part.memories → n.memory m < length whole.memories
  pub memory_same : (m : ℕ) → m < length part.memories → slice_get whole.memories (n.memory m) ≡ slice_get part.memories m

-- ---- renamed commands

module _ (n : Renaming) where
  pub among_renamed : (operands : List Operand) (y : ℕ) → Among (map (operand_by n.read) operands) y → (x : ℕ) × Among operands x × (n.read x ≡ y)
  among_renamed [] y h = absurd h
  among_renamed (Var v ∷ operands) y h = elim h as (λ _. (x : ℕ) × Among (Var v ∷ operands) x × (n.read x ≡ y)) [
    | inl e ↦ (v.0, inl refl, e)
    | inr rest ↦ let found = among_renamed operands y rest in (found.0, inr found.1, found.2)
  ]
  among_renamed (Const number ∷ operands) y h = elim h as (λ _. (x : ℕ) × Among (Const number ∷ operands) x × (n.read x ≡ y)) [
    | inl none ↦ absurd none
    | inr rest ↦ let found = among_renamed operands y rest in (found.0, inr found.1, found.2)
  ]

  operands_renamed : (c : Command) → operands_of (renamed n c) ≡ map (operand_by n.read) (operands_of c)
  operands_renamed c = elim c as (λ c. operands_of (renamed n c) ≡ map (operand_by n.read) (operands_of c)) [ Set mark op to a b d ↦ refl | _ ↦ refl ]

  assigned_renamed : (c : Command) → assigned_by (renamed n c) ≡ option_map n.write (assigned_by c)
  assigned_renamed c = elim c as (λ c. assigned_by (renamed n c) ≡ option_map n.write (assigned_by c)) [ Set mark op to a b d ↦ refl | _ ↦ refl ]

  leaves_renamed : (c : Command) → Leaves c → Leaves (renamed n c)
  leaves_renamed c = elim c as (λ c. Leaves c → Leaves (renamed n c)) [ Set mark op to a b d ↦ λ h. h | _ ↦ λ h. h ]

  pub goes_renamed : (c : Command) (target : ℕ) → GoesTo (renamed n c) target → (t : ℕ) × GoesTo c t × (n.position t ≡ target)
  goes_renamed (Test cond one other) target h = elim h as (λ _. (t : ℕ) × GoesTo (Test cond one other) t × (n.position t ≡ target)) [
    | inl e ↦ (one.0, inl refl, e)
    | inr e ↦ (other.0, inr refl, e)
  ]
  goes_renamed (Jump to) target e = (to.0, refl, e)
  goes_renamed _ target h = absurd h

-- the number of a variable or constant
abbrev number_of : Operand → ℕ
number_of (Var v) = v.0
number_of (Const number) = number

if_some : {A B : Type 0} (o : Option A) (g : A → B) (Q : A → Type 0) (R : B → Type 0) → ((x : A) → Q x → R (g x)) → IfSome o Q → IfSome (option_map g o) R
if_some None g Q R each h = tt
if_some (Some x) g Q R each h = each x h

module _ (part whole : Program) (n : Renaming) (own : ℕ → ℕ) (e : Embeds part whole n own) where
  -- ---- rules 4 to 6

  writable : (f x : ℕ) → IsWritable part f x → IsWritable whole (own f) (n.write x)
  writable f x h = elim h as (λ _. IsWritable whole (own f) (n.write x)) [ inl low ↦ inl (e.static x low) | inr local ↦ inr (e.local f x local) ]

  pub rule4 : (f : ℕ) (c : Command) → f < length part.functions → Rule4 part f c → Rule4 whole (own f) (renamed n c)
  rule4 f c lt rule = record {
    reads = λ y h.
        let found = among_renamed n (operands_of c) y (subst (λ l. Among l y) (operands_renamed n c) h) in
        subst (IsReadable whole (own f)) found.2 (e.readable f found.0 lt (rule.reads found.0 found.1));
    writes = subst (λ o. IfSome o (IsWritable whole (own f))) (sym (assigned_renamed n c))
        (if_some (assigned_by c) n.write (IsWritable part f) (IsWritable whole (own f)) (writable f) rule.writes);
  }

  pub rule5 : (f p : ℕ) (c : Command) → Holds part f p → Rule5 part f p c → Rule5 whole (own f) (n.position p) (renamed n c)
  rule5 f p c holds rule = record {
    targets = λ target h.
        let found = goes_renamed n c target h in
        subst (λ t. (t < 7) ⊎ Holds whole (own f) t) found.2
        (elim (rule.targets found.0 found.1) as (λ _. (n.position found.0 < 7) ⊎ Holds whole (own f) (n.position found.0)) [
          | inl low ↦ inl (e.trap found.0 low)
          | inr held ↦ inr (e.holds f found.0 held)
        ]);
    last = λ ends. leaves_renamed n c (rule.last (e.last f p holds ends));
  }

  pub rule6 : (f : ℕ) (c : Command) → f < length part.functions → Rule6 part f c → Rule6 whole (own f) (renamed n c)
  rule6 f (Set mark op to a b c) lt rule = rule
  rule6 f (Load mark kind memory to offset address) lt rule = (rule.0, e.memory memory rule.1)
  rule6 f (Store kind memory offset address value) lt rule = e.memory memory rule
  rule6 f (Arg mark callee index value) lt rule =
      let there = e.callee callee rule.1 in
      (rule.0, there.0, subst (λ k. index < k) (sym there.1) rule.2)
  rule6 f (Call callee) lt rule = (e.callee callee rule).0
  rule6 f (Out mark index value) lt rule = (rule.0, subst (λ k. index < k) (sym (e.results f lt)) rule.1)
  rule6 f _ lt rule = tt

  -- ---- rules 7 and 8

  passed : (f p : ℕ) → Holds part f p → IsPassed part p → IsPassed whole (n.position p)
  passed f p holds h = record {
    entries = λ g lt same. let there = e.enters f p g holds lt same in h.entries there.0 there.1 there.2;
    others = λ from c is goes. let there = e.comes f p from c holds is goes in h.others there.0 there.1 there.3 there.4;
  }

  guarded : (f before p : ℕ) → Holds part f p → IsGuarded part before p → IsGuarded whole (n.position before) (n.position p)
  guarded f before p holds h = record {
    entries = λ g lt same. let there = e.enters f p g holds lt same in h.entries there.0 there.1 there.2;
    others = λ from c is goes. let there = e.comes f p from c holds is goes in there.2 ∙ ap n.position (h.others there.0 there.1 there.3 there.4);
  }

  -- an operand that isn't a variable of the function isn't it in the whole
  operand_apart : (f t : ℕ) (o : Operand) → ((x : ℕ) → Names o x → IsReadable part f x) → IsLocal part f t → o ≢ variable t → operand_by n.read o ≢ variable (n.write t)
  operand_apart f t (Var v) readable local apart same =
      let read : n.read v.0 ≡ n.write t = ap number_of same in
      apart (ap variable (e.apart f v.0 t (readable v.0 refl) local read))
  operand_apart f t (Const number) readable local apart same = cc

  size_read : (m : ℕ) → m < length part.memories → (f : ℕ) → n.read (size_of part m) ≡ size_of whole (n.memory m)
  size_read m lt f = e.plain f (size_of part m) (inl (omega arith)) ∙ e.size m lt

  between : (f p q r : ℕ) → Holds part f p → Holds part f r → p ≤ q → q ≤ r → Holds part f q
  between f p q r a b le le' = let low = a.from in let high = b.below in record { exists = a.exists; from = omega arith; below = omega arith }

  tested : (f p : ℕ) (a : Reach) → Holds part f p → a.memory < length part.memories → ((x : ℕ) → Names a.address x → IsReadable part f x)
      → IsTested part f p a → IsTested whole (own f) (n.position p) (record { address = operand_by n.read a.address; memory = n.memory a.memory; bytes = a.bytes })
  tested f p a holds lt readable h =
      let place = h.place in
      let second : Holds part f (suc h.first) = between f h.first (suc h.first) p h.within holds (omega arith) (omega arith) in
      let at_second : n.position (suc h.first) ≡ suc (n.position h.first) = e.next f h.first h.within in
      let at_third : n.position p ≡ suc (suc (n.position h.first)) = ap n.position place ∙ e.next f (suc h.first) second ∙ ap suc at_second in
      let plain : n.read h.t ≡ n.write h.t = e.plain f h.t (inr h.own) in
      record {
        first = n.position h.first;
        mark = h.mark;
        t = n.write h.t;
        yes = n.position h.yes;
        place = at_third;
        within = e.holds f h.first h.within;
        set = e.command f h.first _ h.within h.set
            ∙ ap (λ k. Some (Set h.mark Outside (record { 0 = n.write h.t }) (operand_by n.read a.address) (variable k) (Const a.bytes))) (size_read a.memory lt f);
        test = ap (command_at whole) (sym at_second) ∙ e.command f (suc h.first) _ second h.test
            ∙ ap (λ k. Some (Test (variable k) (record { 0 = n.position h.yes }) (record { 0 = n.position p }))) plain;
        own = e.local f h.t h.own;
        apart = operand_apart f h.t a.address readable h.own h.apart;
        away = λ same. h.away (e.same f p h.yes holds same);
        test_passed = subst (IsPassed whole) at_second (passed f (suc h.first) second h.test_passed);
        guarded = subst (λ k. IsGuarded whole k (n.position p)) at_second (guarded f (suc h.first) p holds h.guarded);
      }

  pub rule7 : (f p : ℕ) (c : Command) → Holds part f p → Rule4 part f c → Rule6 part f c → Rule7 part f p c → Rule7 whole (own f) (n.position p) (renamed n c)
  rule7 f p (Load mark kind memory to offset address) holds four six h = tested f p _ holds six.1 (λ x is. four.reads x (inl is)) h
  rule7 f p (Store kind memory offset address value) holds four six h = tested f p _ holds six (λ x is. four.reads x (inl is)) h
  rule7 f p _ holds four six h = tt

  -- a position before one that no function begins at is of the same function
  before : (f p q : ℕ) → Holds part f p → p ≡ suc q → entry_of part f ≢ p → Holds part f q
  before f p q holds is apart =
      let low = holds.from in let high = holds.below in
      elim (cases_lt (entry_of part f) p) as (λ _. Holds part f q) [
        | inl less ↦ record { exists = holds.exists; from = omega arith; below = omega arith }
        | inr more ↦ absurd (apart (omega arith))
      ]

  grown : (f p m : ℕ) (delta : Operand) → Holds part f p → m < length part.memories → ((x : ℕ) → Names delta x → IsReadable part f x)
      → IsGrowth part f p m delta → IsGrowth whole (own f) (n.position p) (n.memory m) (operand_by n.read delta)
  grown f p m delta holds lt readable h =
      let first : ℕ = h.first in
      let passed_size : IsPassed part (suc (suc (suc (suc first)))) = subst (IsPassed part) h.place h.passed_size in
      let last : Holds part f (suc (suc (suc (suc first)))) = subst (Holds part f) h.place holds in
      let at3 : Holds part f (suc (suc (suc first))) = before f _ (suc (suc (suc first))) last refl (passed_size.entries f holds.exists) in
      let at2 : Holds part f (suc (suc first)) = before f _ (suc (suc first)) at3 refl (h.guarded.entries f holds.exists) in
      let at1 : Holds part f (suc first) = before f _ (suc first) at2 refl (h.passed_test.entries f holds.exists) in
      let at0 : Holds part f first = before f _ first at1 refl (h.passed_t.entries f holds.exists) in
      let is1 : n.position (suc first) ≡ suc (n.position first) = e.next f first at0 in
      let is2 : n.position (suc (suc first)) ≡ suc (suc (n.position first)) = e.next f (suc first) at1 ∙ ap suc is1 in
      let is3 : n.position (suc (suc (suc first))) ≡ suc (suc (suc (n.position first))) = e.next f (suc (suc first)) at2 ∙ ap suc is2 in
      let is4 : n.position p ≡ suc (suc (suc (suc (n.position first)))) = ap n.position h.place ∙ e.next f (suc (suc (suc first))) at3 ∙ ap suc is3 in
      let size : n.read (size_of part m) ≡ size_of whole (n.memory m) = size_read m lt f in
      let plain : (x : ℕ) → IsLocal part f x → n.read x ≡ n.write x = λ x local. e.plain f x (inr local) in
      record {
        first = n.position first;
        mark_r = h.mark_r;
        mark_t = h.mark_t;
        mark_v = h.mark_v;
        r = n.write h.r;
        t = n.write h.t;
        v = n.write h.v;
        yes = n.position h.yes;
        reserve = h.reserve;
        place = is4;
        reserved = ap (option_map (λ (defined : MemoryDef). defined.reserve)) (e.memory_same m lt) ∙ h.reserved;
        room = e.command f first _ at0 h.room
            ∙ ap (λ k. Some (Set h.mark_r I32Sub (record { 0 = n.write h.r }) (Const h.reserve) (variable k) (Const 0))) size;
        exceeds = ap (command_at whole) (sym is1) ∙ e.command f (suc first) _ at1 h.exceeds
            ∙ ap (λ k. Some (Set h.mark_t I32GtU (record { 0 = n.write h.t }) (operand_by n.read delta) (variable k) (Const 0))) (plain h.r h.own_r);
        test = ap (command_at whole) (sym is2) ∙ e.command f (suc (suc first)) _ at2 h.test
            ∙ ap (λ k. Some (Test (variable k) (record { 0 = n.position h.yes }) (record { 0 = n.position (suc (suc (suc first))) }))) (plain h.t h.own_t)
            ∙ ap (λ k. Some (Test (variable (n.write h.t)) (record { 0 = n.position h.yes }) (record { 0 = k }))) is3;
        old = ap (command_at whole) (sym is3) ∙ e.command f (suc (suc (suc first))) _ at3 h.old
            ∙ ap (λ k. Some (Set h.mark_v Move (record { 0 = n.write h.v }) (variable k) (Const 0) (Const 0))) size;
        own_r = e.local f h.r h.own_r;
        own_t = e.local f h.t h.own_t;
        own_v = e.local f h.v h.own_v;
        apart_r = operand_apart f h.r delta readable h.own_r h.apart_r;
        apart_t = operand_apart f h.t delta readable h.own_t h.apart_t;
        apart_v = operand_apart f h.v delta readable h.own_v h.apart_v;
        away = λ same. h.away (e.same f (suc (suc (suc first))) h.yes at3 (same ∙ sym is3));
        passed_t = subst (IsPassed whole) is1 (passed f (suc first) at1 h.passed_t);
        passed_test = subst (IsPassed whole) is2 (passed f (suc (suc first)) at2 h.passed_test);
        guarded = subst (λ k. IsGuarded whole k (suc (suc (suc (n.position first))))) is2
            (subst (IsGuarded whole (n.position (suc (suc first)))) is3 (guarded f (suc (suc first)) (suc (suc (suc first))) at3 h.guarded));
        passed_size = passed f p holds h.passed_size;
      }

  -- the Set of a size
  sized : (f p : ℕ) (mark : _) (op : Op) (to : Var') (a b c : Operand) → Holds part f p → Rule4 part f (Set mark op to a b c) → Rule8 part f p (Set mark op to a b c)
      → Rule8 whole (own f) (n.position p) (renamed n (Set mark op to a b c))
  sized f p mark op to a b c holds four rule m lt same =
      let found = e.no_size f to.0 m four.writes lt same in
      let both = rule found.0 found.1 found.2 in
      let sum = both.0 in
      subst (λ k. IsSum whole k op (operand_by n.read a) (operand_by n.read c) × IsGrowth whole (own f) (n.position p) k (operand_by n.read b)) found.3 (
        record {
          sum = sum.sum;
          from_size = ap (operand_by n.read) sum.from_size ∙ ap variable (size_read found.0 found.1 f);
          no_third = ap (operand_by n.read) sum.no_third;
        },
        grown f p found.0 b holds found.1 (λ x is. four.reads x (inr (inl is))) both.1,
      )

  pub rule8 : (f p : ℕ) (c : Command) → Holds part f p → Rule4 part f c → Rule8 part f p c → Rule8 whole (own f) (n.position p) (renamed n c)
  rule8 f p (Set mark op to a b c) holds four h = sized f p mark op to a b c holds four h
  rule8 f p (Load mark kind memory to offset address) holds four h = λ m lt same. let found = e.no_size f to.0 m four.writes lt same in h found.0 found.1 found.2
  rule8 f p _ holds four h = tt
