-- Rule 16 over what is kept of each parameter is rule 16 of the Content. Assumes nothing.
use mathlib.Core.Path.{◌≡◌, refl, sym, ap, ap₂, ◌∙◌}
use mathlib.Core.Bool.{Bool, true, false, cond, not, ◌&&◌, ◌||◌}
use mathlib.Core.List.{List}
use Prim.Native.Nat.{ℕ, ◌+◌, ◌^◌, ◌<◌}
use native.Mathlib.Omega.{arith}
use borrow.Author.Tests.{ltb-true}
use lib.Dec.{eqb, ltb}
use lib.ListN.{length, get_or}
use Rattle.std.specs.declared.option.Option.TheVariants.{Some, None}
use Rattle.std.specs.declared.result.Result.TheVariants.{Ok}
use Rattle.lay.specs.Below.{every, all, any, find}
use Rattle.lay.proofs.Below.{all_same, find_same}
use Rattle.text.specs.declared.refusal.Refusal.TheVariants.{BadIdentifiers}
use Rattle.model.specs.Content.{Content, Parameter, Subframe, no_parameter, parameter, parameters, subframes, sample}
use Rattle.model.specs.Forms.{sheet_limits}
use Rattle.model.specs.Meaning.{ParameterLaw}
use Rattle.model.specs.Identifiers.{lies, identifier_ok, identified_apart, identifies, taken}
use Rattle.gather.specs.Tests.{given}
use Rattle.gather.specs.Ruling.{Accepted, Refused, first_bad, identified}
use Rattle.gather.proofs.Rows.{Each}
use Rattle.gather.proofs.Spots.{given_width}
use Rattle.judge.specs.Keeping.{home_in, alone_in, is_good, home_of}
use Rattle.judge.specs.Rows.{no_kept}
use Rattle.judge.specs.Sixteen.{unlike_in, new_in, identifies_in, bad_in, first_bad_in, lies_in, taken_in}
use Rattle.judge.specs.Walk.{Verdict, refused, verdict_of, unless, identified_in}
use Rattle.judge.specs.declared.rows.Kept.{Kept}
use Rattle.judge.specs.declared.tally.Tally.{Tally}
use Rattle.judge.proofs.Lists.{and_true, all_first, any_items}
use Rattle.judge.proofs.Arrays.{Kepts}

-- what alone is in order
good_is : (subs : List Subframe) (p : Parameter) → ParameterLaw sheet_limits subs p → is_good p ≡ (p.identifier && identifier_ok subs p)
unfolding is_good identifier_ok every alone_in home_in
good_is subs p h =
    rw (given_width subs (sample p 0) (h.each 0 h.some).each, and_true (ltb p.value (2 ^ given (sample p 0).components)))

module _ (c : Content) (law : Each (ParameterLaw sheet_limits c.subframes) no_parameter c.parameters) (s os : List ℕ) (ks : List Kept) (h : Kepts s c.parameters os ks) where
  abbrev ps : List Parameter
  ps = c.parameters

  abbrev row : ℕ → Kept
  row k = get_or ks k no_kept

  good_at : (k : ℕ) → k < length ps → (row k).good ≡ ((parameter c k).identifier && identifier_ok c.subframes (parameter c k))
  good_at k m = (h.each k m).good ∙ good_is c.subframes (parameter c k) (law k m)

  home_at : (k : ℕ) → k < length ps → (row k).home ≡ lies (parameter c k)
  unfolding home_of home_in
  home_at k m = (h.each k m).home

  unlike_is : (i k : ℕ) → i < length ps → k < length ps → unlike_in (row i) (row k) ≡ (not (parameter c k).identifier || identified_apart (parameter c k) (parameter c i))
  unfolding identified_apart every
  unlike_is i k a b =
      rw ((h.each k b).identifier, (h.each k b).value, (h.each i a).value, home_at k b, home_at i a, and_true (not (eqb (lies (parameter c k)) (lies (parameter c i)))))

  new_is : (i : ℕ) → i < length ps → new_in ks i ≡ all i (λ k. not (parameter c k).identifier || identified_apart (parameter c k) (parameter c i))
  new_is i a =
      all_first (unlike_in (row i)) ks no_kept (λ k. not (parameter c k).identifier || identified_apart (parameter c k) (parameter c i)) i
      (omega (arith, h.long))
      (λ k l. unlike_is i k a (omega arith))

  by_flag : (f t n : Bool) → (not f || ((f && t) && n)) ≡ (not f || (t && (n && true)))
  by_flag true t n = ap (λ (m : Bool). t && m) (sym (and_true n))
  by_flag false t n = refl

  identifies_is : (i : ℕ) → i < length ps → identifies_in ks i ≡ identifies c i
  unfolding identifies every
  identifies_is i a =
      rw ((h.each i a).identifier, good_at i a, new_is i a)
      (by_flag (parameter c i).identifier (identifier_ok c.subframes (parameter c i)) (all i (λ k. not (parameter c k).identifier || identified_apart (parameter c k) (parameter c i))))

  bad_is : find (length ks) (bad_in ks) ≡ first_bad c
  unfolding first_bad
  bad_is =
      ap (λ (n : ℕ). find n (bad_in ks)) h.long
      ∙ find_same (length ps) (bad_in ks) (λ i. not (identifies c i)) (λ k l. ap not (identifies_is k l))

  taken_is : (s : ℕ) → taken_in ks s ≡ taken c s
  unfolding taken
  taken_is s =
      any_items (lies_in s) ks no_kept (λ i. (parameter c i).identifier && eqb (lies (parameter c i)) s)
      (λ k l. let m : k < length ps = omega (arith, h.long) in rw ((h.each k m).identifier, home_at k m))
      ∙ ap (λ (n : ℕ). any n (λ i. (parameter c i).identifier && eqb (lies (parameter c i)) s)) h.long

  all_taken_is : (n : ℕ) → all n (λ s. taken_in ks (s + 1)) ≡ all n (λ s. taken c (s + 1))
  all_taken_is n = all_same n (λ s. taken_in ks (s + 1)) (λ s. taken c (s + 1)) (λ k l. taken_is (k + 1))

  -- the answer, with the counts x: a is of no parameters, b the first bad one, e of all subframes taken
  shape : Tally → Bool → ℕ → Bool → Verdict
  shape x a b e =
      cond a (Ok x)
      (unless (cond (ltb b (length ks)) (Some b) None) (λ i. refused BadIdentifiers (row i).opened_at) (cond e (Ok x) (refused BadIdentifiers 0)))

  shape_is : (x : Tally) (a e : Bool) (b : ℕ) (t : Bool) → ltb b (length ks) ≡ t
      → shape x a b e ≡ verdict_of (cond a (Accepted c) (cond t (Refused BadIdentifiers (get_or os b 0)) (cond e (Accepted c) (Refused BadIdentifiers 0)))) x
  unfolding shape
  shape_is x true e b t q = refl
  shape_is x false e b true q =
      let l : b < length ps = omega (arith, h.long, ltb-true b (length ks) q) in
      rw (q, (h.each b l).opened_at)
  shape_is x false true b false q = rw q
  shape_is x false false b false q = rw q

  pub identified_is : (x : Tally) → x.parameters ≡ parameters c → x.declared ≡ subframes c → identified_in x ks ≡ verdict_of (identified c os) x
  unfolding identified_in first_bad_in identified shape
  identified_is x p d =
      let a = eqb (parameters c) 0 in
      let m = subframes c in
      ap₂ (λ (n k : ℕ). shape x (eqb n 0) (find (length ks) (bad_in ks)) (all k (λ s. taken_in ks (s + 1)))) p d
      ∙ (ap₂ (shape x a) bad_is (all_taken_is m)
      ∙ shape_is x a (all m (λ s. taken c (s + 1))) (first_bad c) (ltb (first_bad c) (parameters c)) (ap (ltb (first_bad c)) h.long))
