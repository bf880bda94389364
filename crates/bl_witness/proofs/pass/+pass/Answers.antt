use Rattle.std.proofs.Common.{◌≡◌, ◌∙◌, ◌-◌, ◌<◌, ◌∷◌, length, Some, None, ap, ap₂, refl, arith}
use Rattle.json.specs.Json.{after_end_array, read_key, value}
use Rattle.json.specs.Reads.{token_of}
use Rattle.json.proofs.Grammar.{read_key-shorter, value_is}
use Rattle.serde_json.specs.Data.{array, boolean, no_members, null, number, object, put, string}
use Rattle.serde_json.specs.Read.{converted, number_of, of_json}
use Rattle.bl_witness.proofs.Arrays.{all_read, none_read, not_read, one_read}
use Rattle.bl_witness.proofs.Turns.{if_ok, in_range, key_lacks, lacks_array, lacks_none, lacks_number, lacks_object, member_lacks, member_read, members_over, out_of_range, takes_array, takes_boolean, takes_null, takes_number, takes_object, takes_string}
use Rattle.bl_witness.proofs.pass.+pass.Goals as goal

pub pass-returns-in_err-token-clause-err : goal.pass-returns-in_err-token-clause-err
pass-returns-in_err-token-clause-err t c refused = lacks_none c.args.depth c.args.reader.now (grind arith)

-- ---- items

pub pass_items-items-init : goal.pass_items-items-init
pass_items-items-init t c = (none_read (λ _. tt) (λ _. tt) (value c.args.depth) c.args.reader.now (λ _. refl), omega arith)

pub pass_items-items-preserved : goal.pass_items-items-preserved
pass_items-items-preserved t c =
    let l = c.items in
    let going : (after_end_array l.reader ≡ None) × (c.take_end_array.new.self ≡ l.reader) = grind arith in
    let done = c.in_ok-pass.ensures in
    let r = c.pass.new.reader in
    let less : length r < length l.reader = rw (← going.1) done.shorter in
    (one_read _ _ _ _ l.reader l.invariant.0 (λ _. tt) done.ok.0 r (λ _. refl) going.0 (rw (← going.1) done.ok.1) less, omega (arith, l.invariant.1))

pub pass_items-returns-in_err-pass-clause-err : goal.pass_items-returns-in_err-pass-clause-err
pass_items-returns-in_err-pass-clause-err t c refused =
    let l = c.items in
    let going : (after_end_array l.reader ≡ None) × (c.take_end_array.new.self ≡ l.reader) = grind arith in
    not_read _ _ _ _ l.reader l.invariant.0 going.0 (rw (← going.1) (c.pass.ensures.err (grind arith)))

pub pass_items-returns-clause-ok : goal.pass_items-returns-clause-ok
pass_items-returns-clause-ok t c =
    let l = c.items in
    let all = all_read _ _ _ _ l.reader l.invariant.0 c.take_end_array.new.self (grind arith) in
    (all.0, all.1)

-- ---- members

pub pass_members-members-init : goal.pass_members-members-init
pass_members-members-init t c = (length c.args.reader.now, omega arith, no_members, refl, omega arith)

pub pass_members-members-preserved : goal.pass_members-members-preserved
pass_members-members-preserved t c =
    let p = value c.args.depth in
    let l = c.members in
    let n = l.invariant.0 in
    let old = l.invariant.2 in
    let k = c.in-Some.field-0.now in
    let s = c.next_key.new.self in
    let named : read_key l.reader ≡ Some (Some k, s) = grind arith in
    let done = c.in_ok-pass.ensures in
    let d = done.ok.0 in
    let r = c.pass.new.reader in
    let less = read_key-shorter l.reader (Some k) s named in
    let lesser = done.shorter in (
      n - 1,
      omega (arith, l.invariant.1),
      put k d old,
      l.invariant.3 ∙ member_read p old n k l.reader s r d (omega (arith, l.invariant.1)) named done.ok.1,
      omega (arith, l.invariant.4),
    )

pub pass_members-returns-in_err-next_key-clause-err : goal.pass_members-returns-in_err-next_key-clause-err
pass_members-returns-in_err-next_key-clause-err t c refused =
    let l = c.members in
    l.invariant.3 ∙ key_lacks (value c.args.depth) l.invariant.2 l.invariant.0 l.reader c.in_err-next_key.ensures.value

pub pass_members-returns-in_err-pass-clause-err : goal.pass_members-returns-in_err-pass-clause-err
pass_members-returns-in_err-pass-clause-err t c refused =
    let l = c.members in
    let k = c.in-Some.field-0.now in
    let s = c.next_key.new.self in
    let named : read_key l.reader ≡ Some (Some k, s) = grind arith in
    l.invariant.3 ∙ member_lacks (value c.args.depth) l.invariant.2 l.invariant.0 k l.reader s named (c.pass.ensures.err (grind arith))

pub pass_members-returns-clause-ok : goal.pass_members-returns-clause-ok
pass_members-returns-clause-ok t c =
    let l = c.members in
    (l.invariant.2, l.invariant.3 ∙ members_over (value c.args.depth) l.invariant.2 l.invariant.0 l.reader c.next_key.new.self l.invariant.1 (grind arith))

-- ---- a value by its first token

pub pass_rest-returns-in-String-clause-ok : goal.pass_rest-returns-in-String-clause-ok
pass_rest-returns-in-String-clause-ok t c =
    let ts = c.args.reader.now in
    let s = c.in-String.field-0.now in
    (string s, ap (λ k. converted of_json (value c.args.depth (token_of k ∷ ts))) c.in-String.is ∙ takes_string c.args.depth ts s)

pub pass_rest-returns-in-Bool-clause-ok : goal.pass_rest-returns-in-Bool-clause-ok
pass_rest-returns-in-Bool-clause-ok t c =
    let ts = c.args.reader.now in
    let b = c.in-Bool.field-0 in
    (boolean b, ap (λ k. converted of_json (value c.args.depth (token_of k ∷ ts))) c.in-Bool.is ∙ takes_boolean c.args.depth ts b)

pub pass_rest-returns-in-Null-clause-ok : goal.pass_rest-returns-in-Null-clause-ok
pass_rest-returns-in-Null-clause-ok t c =
    let ts = c.args.reader.now in
    (null, ap (λ k. converted of_json (value c.args.depth (token_of k ∷ ts))) c.in-Null.is ∙ takes_null c.args.depth ts)

pub pass_rest-returns-then-is_in_range-clause-ok : goal.pass_rest-returns-then-is_in_range-clause-ok
pass_rest-returns-then-is_in_range-clause-ok t c =
    let ts = c.args.reader.now in
    let s = c.in-Number.text.now in
    let x = in_range (number_of s) c.if-is_in_range.ensures in
    (number x.0, ap (λ k. converted of_json (value c.args.depth (token_of k ∷ ts))) c.in-Number.is ∙ takes_number c.args.depth ts s x.0 x.1)

pub pass_rest-returns-else-is_in_range-clause-err : goal.pass_rest-returns-else-is_in_range-clause-err
pass_rest-returns-else-is_in_range-clause-err t c refused =
    let ts = c.args.reader.now in
    let s = c.in-Number.text.now in
    ap (λ k. converted of_json (value c.args.depth (token_of k ∷ ts))) c.in-Number.is ∙ lacks_number c.args.depth ts s (out_of_range (number_of s) c.if-is_in_range.ensures)

pub pass_rest-returns-in-EndObject-clause-err : goal.pass_rest-returns-in-EndObject-clause-err
pass_rest-returns-in-EndObject-clause-err t c refused =
    let none : value c.args.depth (token_of c.args.token ∷ c.args.reader.now) ≡ None = rw (value_is c.args.depth (token_of c.args.token ∷ c.args.reader.now)) (grind arith) in
    ap (converted of_json) none

pub pass_rest-returns-then-depth-eq0-clause-err : goal.pass_rest-returns-then-depth-eq0-clause-err
unfolding value
pass_rest-returns-then-depth-eq0-clause-err t c refused =
    let none : c.args.depth ≡ 0 = omega arith in
    ap (converted of_json) (ap₂ value none (ap (λ k. token_of k ∷ c.args.reader.now) c.in-BeginArray.is))

pub pass_rest-returns-then-depth-eq0-2-clause-err : goal.pass_rest-returns-then-depth-eq0-2-clause-err
unfolding value
pass_rest-returns-then-depth-eq0-2-clause-err t c refused =
    let none : c.args.depth ≡ 0 = omega arith in
    ap (converted of_json) (ap₂ value none (ap (λ k. token_of k ∷ c.args.reader.now) c.in-BeginObject.is))

pub pass_rest-returns-else-depth-eq0-clause-ok : goal.pass_rest-returns-else-depth-eq0-clause-ok
pass_rest-returns-else-depth-eq0-clause-ok t c =
    let ts = c.args.reader.now in
    let first = ap (λ k. converted of_json (value c.args.depth (token_of k ∷ ts))) c.in-BeginArray.is in
    if_ok c.pass_items.result (λ _ h. (array h.0, first ∙ takes_array c.args.depth ts (omega arith) h.0 c.pass_items.new.reader h.1)) c.pass_items.ensures.ok

pub pass_rest-returns-else-depth-eq0-clause-err : goal.pass_rest-returns-else-depth-eq0-clause-err
pass_rest-returns-else-depth-eq0-clause-err t c refused =
    let ts = c.args.reader.now in
    ap (λ k. converted of_json (value c.args.depth (token_of k ∷ ts))) c.in-BeginArray.is ∙ lacks_array c.args.depth ts (omega arith) (c.pass_items.ensures.err refused)

pub pass_rest-returns-else-depth-eq0-2-clause-ok : goal.pass_rest-returns-else-depth-eq0-2-clause-ok
pass_rest-returns-else-depth-eq0-2-clause-ok t c =
    let ts = c.args.reader.now in
    let first = ap (λ k. converted of_json (value c.args.depth (token_of k ∷ ts))) c.in-BeginObject.is in
    if_ok c.pass_members.result (λ _ h. (object h.0, first ∙ takes_object c.args.depth ts (omega arith) h.0 c.pass_members.new.reader h.1)) c.pass_members.ensures.ok

pub pass_rest-returns-else-depth-eq0-2-clause-err : goal.pass_rest-returns-else-depth-eq0-2-clause-err
pass_rest-returns-else-depth-eq0-2-clause-err t c refused =
    let ts = c.args.reader.now in
    ap (λ k. converted of_json (value c.args.depth (token_of k ∷ ts))) c.in-BeginObject.is ∙ lacks_object c.args.depth ts (omega arith) (c.pass_members.ensures.err refused)
