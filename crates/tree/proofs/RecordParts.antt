-- A record's parts, as the readers of a tree cut them out, and what is asked of each. Assumes nothing.
use Prim.Native.Nat.{ℕ, zero, suc, ◌+◌, ◌*◌, ◌-◌, ◌≤◌, ◌<◌}
use mathlib.Core.Path.{◌≡◌, refl, sym, ap, ap₂, ◌∙◌}
use mathlib.Core.List.{List, [], ◌∷◌, ◌++◌, append_assoc, append-nil}
use mathlib.Core.Bool.{Bool, true, false}
use native.Mathlib.Omega.{arith}
use lib.Dec.{leb}
use borrow.Author.Tests.{le-leb, lt-leb}
use lib.ListN.{length, take, drop, get_or, set, length-append, length-drop, drop_of_length-le}
use lib.Seq.{take-nil, take_all, drop-drop, length-take-le}
use borrow.Rule.Slice.PartMut.{put_mid, mid_of}
use Rattle.laws.specs.Lists.{piece, put}
use Rattle.laws.specs.Sorted.{all}
use Rattle.laws.proofs.Lists.{Wrote, wrote_none, wrote-first, wrote-more, wrote-last, wrote-all, put-snoc}
use Rattle.layout.specs.Buffers.{written}
use Rattle.layout.specs.Layout.{record_at}
use Rattle.data_model.specs.Subspace.{first_subspace}
use Rattle.data_model.specs.Path.{Figures, field, joined, components, legal, is_path}
use Rattle.data_model.specs.Entry.{entry_of, rank_of}
use Rattle.data_model.specs.Origin.{origin_kind, origin_session, is_origin, origin_of}
use Rattle.std.specs.Prelude.{Result, Ok, Err}
use Rattle.std.specs.Result.{result_unwrap_or}
use Rattle.data_model.specs.declared.answer.Refusal.{Refusal}
use Rattle.data_model.specs.Refusal.{said}
use Rattle.data_model.specs.Said.{Said, says, refuses}
use Rattle.keys.specs.Encode.{be, Triple, triple, spt_key, tsp_key, key_most, encoded, encoded_in, roomy}
use Rattle.keys.specs.Decode.{Taken, refused, took, read_spt, read_tsp, number, decoded, was_read}
use Rattle.data_model.specs.declared.entry_origin.EntryOrigin.{EntryOrigin}
use Rattle.data_model.specs.declared.path.Path.{Path}
use Rattle.data_model.specs.declared.parameters.Subspace.{Subspace}
use Rattle.keys.specs.declared.decode.EntryKey.{EntryKey}
use Rattle.keys.proofs.Encoding.{be-length, legal-most}
use Rattle.key_laws.proofs.KeyLength.{spt-length, tsp-length}
use Rattle.key_laws.specs.Bytes.{Bytes}
use Rattle.key_laws.proofs.Fits.{bytes_take, bytes_drop, legal-of, components-of}
use Rattle.tree.specs.Value.{digest_at, token_at, available_at, origin_at, session_at, value_length, origin_bytes, value_bytes, read_value, is_value}
use Rattle.tree.specs.Stored.{read_in, key_of, value_part, available_in, is_key, is_record, Stored, stored_from, triple_read, entry_key, stored, triple_of, value_for, record_of, lengthy, stored_of, key_in, written_length}
use Rattle.tree.specs.Tree.{InBounds}
use Rattle.tree.specs.declared.value.Value.{Value}
use Rattle.tree.specs.declared.stored.KeyOrder.{KeyOrder}
use Rattle.tree.specs.declared.stored.KeyOrder.TheVariants.{Spt, Tsp}
use Rattle.tree.specs.declared.stored.LengthyAuthorisedEntry.{LengthyAuthorisedEntry}
use Rattle.tree.proofs.RecordLaws.{key-forth, value-length}

-- The rest of a beginning is a beginning of the rest.
pub drop-cut : (m n : ℕ) (l : List ℕ) → drop m (take n l) ≡ take (n - m) (drop m l)
drop-cut zero n l = let e : n ≡ n - 0 = omega arith in ap (λ (k : ℕ). take k l) e
drop-cut (suc m) zero l = let e : 0 ≡ 0 - suc m = omega arith in ap (λ (k : ℕ). take k (drop (suc m) l)) e
drop-cut (suc m) (suc n) [] = sym (take-nil (suc n - suc m))
drop-cut (suc m) (suc n) (a ∷ l) = let e : n - m ≡ suc n - suc m = omega arith in drop-cut m n l ∙ ap (λ (k : ℕ). take k (drop m l)) e

-- A key is read in its order.
module _ (o : KeyOrder) (f : Figures) (k : List ℕ) (r : Said EntryKey) where
  pub read-spt : o ≡ Spt → r ≡ decoded (read_spt f k) → r ≡ decoded (read_in o f k)
  unfolding read_in
  read-spt e h = rw e h

  pub read-tsp : o ≡ Tsp → r ≡ decoded (read_tsp f k) → r ≡ decoded (read_in o f k)
  unfolding read_in
  read-tsp e h = rw e h

-- A key is judged in its order.
module _ (o : KeyOrder) (f : Figures) (k : List ℕ) (r : Bool) where
  pub judged-spt : o ≡ Spt → r ≡ was_read (read_spt f k) → r ≡ is_key o f k
  unfolding is_key read_in
  judged-spt e h = rw e h

  pub judged-tsp : o ≡ Tsp → r ≡ was_read (read_tsp f k) → r ≡ is_key o f k
  unfolding is_key read_in
  judged-tsp e h = rw e h

-- A value is judged by its lengths, and by its origin if these pass.
module _ (v : Value) (m n : ℕ) (em : m ≡ v.available) (en : n ≡ v.payload_length) where
  pub value-over : n < m → false ≡ is_value v
  unfolding is_value
  value-over h = rw (← em, ← en) (rw (lt-leb m n h))

  pub value-within : m ≤ n → (b : Bool) → b ≡ is_origin v.kind v.session → b ≡ is_value v
  unfolding is_value
  value-within h b e = rw (← em, ← en) (rw (le-leb m n h) e)

-- The three answers to what is no record, and what may be one.
module _ (o : KeyOrder) (f : Figures) (r : List ℕ) where
  pub record-short : length r < value_length → false ≡ is_record o f r
  unfolding is_record
  record-short h = rw (lt-leb value_length (length r) h)

  module _ (h : value_length ≤ length r) where
    pub record-keyless : is_key o f (key_of r) ≡ false → false ≡ is_record o f r
    unfolding is_record
    record-keyless e = rw (le-leb value_length (length r) h, e)

    pub record-keyed : is_key o f (key_of r) ≡ true → is_value (read_value (value_part r)) ≡ is_record o f r
    unfolding is_record
    record-keyed e = rw (le-leb value_length (length r) h, e)

-- The key and the value of what pair k cuts out.
module _ (o l e k : ℕ) (dir tree : List ℕ) (eo : o ≡ get_or dir (2 * k) 0) (el : l ≡ get_or dir (2 * k + 1) 0) where
  module _ (b : InBounds k dir tree) where
    cut-length : length (take l (drop o tree)) ≡ l
    cut-length = length-take-le l (drop o tree) (omega (arith, length-drop o tree, b.inside))

    pub value-part : e ≡ o + l → take (e - (e - value_length)) (drop (e - value_length) tree) ≡ value_part (record_at k dir tree)
    value-part ee =
        let n : e - (e - value_length) ≡ l - (l - value_length) = omega (arith, b.least) in
        let m : e - value_length ≡ o + (l - value_length) = omega (arith, b.least) in
        ap₂ (λ (i j : ℕ). take i (drop j tree)) n m
        ∙ ap (take (l - (l - value_length))) (sym (drop-drop (l - value_length) o tree))
        ∙ sym (drop-cut (l - value_length) l (drop o tree))
        ∙ ap (λ (n : ℕ). drop (n - value_length) (take l (drop o tree))) (sym cut-length)
        ∙ rw (eo, el)

    -- The available length written over, in the part from its beginning on.
    pub available-wrote : (n : ℕ) (last : List ℕ) → e ≡ ((o + l) - value_length) + available_at → last ≡ put (be 8 n) (mid_of e (length tree - e) tree)
        → put_mid e (length tree - e) tree last ≡ written (get_or dir (2 * k) 0 + available_in (record_at k dir tree)) (be 8 n) tree
    unfolding put written
    available-wrote n last ee q =
        let at : get_or dir (2 * k) 0 + ((length (take (get_or dir (2 * k + 1) 0) (drop (get_or dir (2 * k) 0) tree)) - value_length) + available_at) ≡ e
        = omega (arith, ap (λ (m : ℕ). length (take m (drop (get_or dir (2 * k) 0) tree))) (sym el), ap (λ (m : ℕ). length (take l (drop m tree))) (sym eo), cut-length, b.least) in
        let t : take (length tree - e) (drop e tree) ≡ drop e tree = take_all (length tree - e) (drop e tree) (simp length-drop (omega arith)) in
        let z : drop (length tree - e) (drop e tree) ≡ [] = drop_of_length-le (drop e tree) {i = length tree - e} (simp length-drop (omega arith)) in
        let w : last ≡ be 8 n ++ drop (length (be 8 n)) (drop e tree) = q ∙ simp t in
        rw (at, z, w, append-nil)
        (sym (append_assoc (take e tree) (be 8 n) (drop (length (be 8 n)) (drop e tree))) ∙ ap (take e tree ++ be 8 n ++◌) (drop-drop (length (be 8 n)) e tree))

pub part-long : (k : ℕ) (dir tree v : List ℕ) → v ≡ value_part (record_at k dir tree) → InBounds k dir tree → length v ≡ value_length
part-long k dir tree v e b =
    let o = get_or dir (2 * k) 0 in
    let l = get_or dir (2 * k + 1) 0 in
    let n : length (record_at k dir tree) ≡ l = length-take-le l (drop o tree) (omega (arith, length-drop o tree, b.inside)) in
    ap length e ∙ length-drop (length (record_at k dir tree) - value_length) (record_at k dir tree) ∙ omega (arith, b.least)

-- The parts of a value.
pub value-parts : (b y z d t : List ℕ) (m n k l : ℕ) → m ≡ number b → d ≡ piece digest_at token_at b → t ≡ piece token_at available_at b → y ≡ drop available_at b → n ≡ number y
    → k ≡ get_or b origin_at 0 → z ≡ drop session_at b → l ≡ number z
    → record { payload_length = m; payload_digest = d; token = t; available = n; kind = k; session = l } ≡ read_value b
unfolding read_value
value-parts b y z d t m n k l p q r ey en ek ez el =
    let g : n ≡ number (drop available_at b) = en ∙ ap number ey in
    let h : l ≡ number (drop session_at b) = el ∙ ap number ez in
    λ i. record { payload_length = p i; payload_digest = q i; token = r i; available = g i; kind = ek i; session = h i }

-- What is handed out for a key and a value that were read.
abbrev handed : List ℕ → EntryKey → Value → EntryOrigin → LengthyAuthorisedEntry
handed ns d v o = record {
  entry = record {
    namespace_id = ns;
    subspace_id = d.subspace;
    path = d.path;
    timestamp = d.timestamp;
    payload_length = v.payload_length;
    payload_digest = v.payload_digest;
  };
  token = v.token;
  available = v.available;
  origin = o;
}

pub stored-read : (ns : List ℕ) (x : Taken Triple) (v : Value) (d : EntryKey) (w : Value) (o : EntryOrigin) → d ≡ entry_key (triple_read x) → w ≡ v → o ≡ origin_of w.kind w.session
    → handed ns d w o ≡ lengthy (stored_from ns (triple_read x) v)
unfolding lengthy stored_from
stored-read ns x v d w o e g h = ap (handed ns d w) h ∙ ap₂ (λ (a : EntryKey) (b : Value). handed ns a b (origin_of b.kind b.session)) e g

-- What a decoder answers, with what is handed out for no key.
taken_or : EntryKey → Said EntryKey → EntryKey
taken_or k (says d) = d
taken_or k (refuses n) = k

no_triple : EntryKey
no_triple = entry_key (triple first_subspace [] 0)

module _ (x : Taken Triple) where
  taken : taken_or no_triple (decoded x) ≡ entry_key (triple_read x)
  unfolding decoded triple_read taken_or no_triple
  taken = go x
    where
      go : (x : Taken Triple) → taken_or (entry_key (triple first_subspace [] 0)) (decoded x) ≡ entry_key (triple_read x)
      go refused = refl
      go (took t n) = refl

  pub key-taken : (d : EntryKey) → says d ≡ decoded x → d ≡ entry_key (triple_read x)
  unfolding taken_or
  key-taken d e = ap (taken_or no_triple) e ∙ taken

  pub key-refused : (n : ℕ) → refuses n ≡ decoded x → entry_key (triple first_subspace [] 0) ≡ entry_key (triple_read x)
  unfolding taken_or no_triple
  key-refused n e = ap (taken_or no_triple) e ∙ taken

-- How many bytes an encoder has written, as its answer has it.
pub written-or : (r : Result ℕ Refusal) → result_unwrap_or r 0 ≡ written_length (said r)
unfolding written_length
written-or (Ok n) = refl
written-or (Err r) = refl

-- The path that a key of bytes says is a path.
pub read-path : (o : KeyOrder) (f : Figures) (k : List ℕ) → Bytes k → is_path f (triple_read (read_in o f k)).path ≡ true
unfolding triple_read is_path all joined
read-path o f k bytes = go (read_in o f k) λ t n e. (key-forth o f k bytes t n e).1
  where
    go : (x : Taken Triple) → ((t : Triple) (n : ℕ) → x ≡ took t n → is_path f t.path ≡ true) → is_path f (triple_read x).path ≡ true
    go refused h = rw (le-leb 0 f.mcc (omega arith), le-leb 0 f.mpl (omega arith))
    go (took t n) h = h t n refl

-- A value that is handed out says what it was made of.
pub stored_of_lem : (s : Stored) → stored_of (lengthy s) ≡ s
unfolding stored_of lengthy entry_of rank_of
stored_of_lem s = λ i. record {
  entry = record { namespace = s.entry.namespace; subspace = s.entry.subspace; path = components-of s.entry.path i; rank = s.entry.rank };
  token = s.token;
  available = s.available;
  origin = s.origin;
}

pub stored-says : (o : KeyOrder) (ns : List ℕ) (k : ℕ) (dir tree key value : List ℕ) (r : LengthyAuthorisedEntry) → Bytes tree
    → key ≡ key_of (record_at k dir tree) → value ≡ value_part (record_at k dir tree)
    → r ≡ lengthy (stored_from ns (triple_read (read_in o field key)) (read_value value))
    → (r ≡ lengthy (stored o field ns (record_at k dir tree)))
    × ((legal field r.entry.path ≡ true) × (stored_of r ≡ stored o field ns (record_at k dir tree)))
unfolding stored lengthy stored_from
stored-says o ns k dir tree key value r bytes ek ev e =
    let rec = record_at k dir tree in
    let b : Bytes (key_of rec) = bytes_take (length rec - value_length) rec (bytes_take (get_or dir (2 * k + 1) 0) (drop (get_or dir (2 * k) 0) tree) (bytes_drop (get_or dir (2 * k) 0) tree bytes)) in
    let q : r ≡ lengthy (stored o field ns rec) = e ∙ ap₂ (λ (x y : List ℕ). lengthy (stored_from ns (triple_read (read_in o field x)) (read_value y))) ek ev in (
      q,
      (
        ap (λ (a : LengthyAuthorisedEntry). legal field a.entry.path) q ∙ legal-of field (triple_read (read_in o field (key_of rec))).path (read-path o field (key_of rec) b),
        ap stored_of q ∙ stored_of_lem (stored o field ns rec),
      ),
    )

-- What an encoder has written whose buffer has room for any key.
module _ (o : KeyOrder) (f : Figures) (s : Subspace) (p : Path) (t : ℕ) (h : legal f p ≡ true) (old out : List ℕ) (room : key_most f ≤ length old) (done : Said ℕ) (n : ℕ) (e : n ≡ written_length done) where
  wrote-key : (key : List ℕ) → done ≡ encoded (roomy f old) (legal f p) key → out ≡ encoded_in (roomy f old) (legal f p) key old → (n ≡ length key) × (out ≡ put key old)
  unfolding roomy encoded encoded_in written_length
  wrote-key key d g =
      let q : leb (key_most f) (length old) ≡ true = le-leb (key_most f) (length old) room in
      let a : done ≡ says (length key) = simp (q, h) at d in
      let b : out ≡ put key old = simp (q, h) at g in
      (e ∙ ap written_length a, b)

  pub wrote-spt : o ≡ Spt → done ≡ encoded (roomy f old) (legal f p) (spt_key (triple s (components p) t)) → out ≡ encoded_in (roomy f old) (legal f p) (spt_key (triple s (components p) t)) old
      → (n ≡ length (key_in o (triple s (components p) t))) × (out ≡ put (key_in o (triple s (components p) t)) old)
  unfolding key_in
  wrote-spt q d g = rw q (wrote-key (spt_key (triple s (components p) t)) d g)

  pub wrote-tsp : o ≡ Tsp → done ≡ encoded (roomy f old) (legal f p) (tsp_key (triple s (components p) t)) → out ≡ encoded_in (roomy f old) (legal f p) (tsp_key (triple s (components p) t)) old
      → (n ≡ length (key_in o (triple s (components p) t))) × (out ≡ put (key_in o (triple s (components p) t)) old)
  unfolding key_in
  wrote-tsp q d g = rw q (wrote-key (tsp_key (triple s (components p) t)) d g)

pub key_fits : (o : KeyOrder) (f : Figures) (s : Subspace) (p : Path) (t : ℕ) → legal f p ≡ true → length (key_in o (triple s (components p) t)) ≤ key_most f
unfolding key_in
key_fits Spt f s p t h = omega (arith, spt-length (triple s (components p) t), legal-most f p h)
key_fits Tsp f s p t h = omega (arith, tsp-length (triple s (components p) t), legal-most f p h)

-- A piece is written at the place where the last one ended.
pub wrote-written : (w xs rest old out next : List ℕ) (at : ℕ) → Wrote w (xs ++ rest) old out at → at + length xs ≤ length out → next ≡ written at xs out → Wrote w rest old next (at + length xs)
unfolding written put
wrote-written w xs rest old out next at h fits e =
    let q : next ≡ take at out ++ (xs ++ drop (length xs) (drop at out)) = e ∙ append_assoc (take at out) xs (drop (at + length xs) out) ∙ ap (λ (z : List ℕ). take at out ++ (xs ++ z)) (sym (drop-drop (length xs) at out)) in
    rw q (wrote-more w xs rest old out at h fits)

-- The two halves of a value: a number and bytes behind it, bytes and the end of a value behind them.
pub front-wrote : (n : ℕ) (d : List ℕ) → length d ≡ 32 → (old out1 out2 : List ℕ) → 40 ≤ length old → out1 ≡ put (be 8 n) old → out2 ≡ written 8 d out1 → out2 ≡ put (be 8 n ++ d) old
front-wrote n d ld old out1 out2 h e1 e2 =
    let w = be 8 n ++ (d ++ []) in
    let s1 : Wrote w (d ++ []) old out1 8 = wrote-first (be 8 n) (d ++ []) old out1 8 (omega arith) (sym (be-length 8 n)) e1 in
    let s2 : Wrote w [] old out2 (8 + length d) = wrote-written w d [] old out1 out2 8 s1 (omega (arith, s1.size)) e2 in
    wrote-all w old out2 (8 + length d) s2 ∙ ap (λ (z : List ℕ). put (be 8 n ++ z) old) (append-nil d)

-- The end of a value: an available length, and an origin behind it.
abbrev end_bytes : (n kind session : ℕ) → List ℕ
end_bytes n kind session = be 8 n ++ origin_bytes kind session

origin-length : (kind session : ℕ) → length (origin_bytes kind session) ≡ value_length - origin_at
origin-length kind session = ap suc (be-length 8 session)

end-length : (n kind session : ℕ) → length (end_bytes n kind session) ≡ value_length - available_at
end-length n kind session = length-append (be 8 n) (origin_bytes kind session) ∙ omega (arith, be-length 8 n, origin-length kind session)

pub origin-wrote : (kind session : ℕ) (old last : List ℕ) → value_length - origin_at ≤ length old → last ≡ put (be 8 session) (mid_of 1 (length (set old 0 kind) - 1) (set old 0 kind))
    → put_mid 1 (length (set old 0 kind) - 1) (set old 0 kind) last ≡ put (origin_bytes kind session) old
unfolding put
origin-wrote kind session old last h e =
    let first : set old 0 kind ≡ put (kind ∷ []) old = put-snoc [] old 0 kind refl (omega arith) in
    let s : Wrote (kind ∷ be 8 session) (be 8 session) old (set old 0 kind) 1 = wrote-first (kind ∷ []) (be 8 session) old (set old 0 kind) 1 (omega arith) refl first in
    (wrote-last (kind ∷ be 8 session) (be 8 session) old (set old 0 kind) last 1 8 s (omega (arith, s.size)) (sym (be-length 8 session)) e).1

pub end-wrote : (n kind session : ℕ) (old out last : List ℕ) → value_length - available_at ≤ length old → out ≡ put (be 8 n) old
    → last ≡ put (origin_bytes kind session) (mid_of 8 (length out - 8) out) → put_mid 8 (length out - 8) out last ≡ put (end_bytes n kind session) old
end-wrote n kind session old out last h e1 e2 =
    let o = origin_bytes kind session in
    let s : Wrote (be 8 n ++ o) o old out 8 = wrote-first (be 8 n) o old out 8 (omega arith) (sym (be-length 8 n)) e1 in
    (wrote-last (be 8 n ++ o) o old out last 8 (value_length - origin_at) s (omega (arith, s.size)) (sym (origin-length kind session)) e2).1

pub back-wrote : (t : List ℕ) (n kind session : ℕ) → length t ≡ 64 → (old out last : List ℕ) → value_length - token_at ≤ length old → out ≡ written 0 t old
    → last ≡ put (be 8 n ++ origin_bytes kind session) (mid_of 64 (length out - 64) out) → put_mid 64 (length out - 64) out last ≡ put (t ++ (be 8 n ++ origin_bytes kind session)) old
back-wrote t n kind session lt old out last h e1 e2 =
    let z = end_bytes n kind session in
    let w = t ++ z in
    let s1 : Wrote w z old out (0 + length t) = wrote-written w t z old old out 0 (wrote_none w old) (omega arith) e1 in
    let s2 : Wrote w z old out 64 = rw lt at s1 in
    (wrote-last w z old out last 64 (value_length - available_at) s2 (omega (arith, s2.size)) (sym (end-length n kind session)) e2).1

pub value-wrote : (v : Value) → length v.payload_digest ≡ 32 → length v.token ≡ 64 → (old out last : List ℕ) → value_length ≤ length old
    → out ≡ put (be 8 v.payload_length ++ v.payload_digest) old
    → last ≡ put (v.token ++ (be 8 v.available ++ origin_bytes v.kind v.session)) (mid_of 40 (length out - 40) out)
    → put_mid 40 (length out - 40) out last ≡ put (value_bytes v) old
unfolding value_bytes
value-wrote v ld lt old out last h e1 e2 =
    let x = be 8 v.payload_length in
    let d = v.payload_digest in
    let z = end_bytes v.available v.kind v.session in
    let y = v.token ++ z in
    let lx : length (x ++ d) ≡ 40 = length-append x d ∙ omega (arith, be-length 8 v.payload_length) in
    let ly : length y ≡ value_length - token_at = length-append v.token z ∙ omega (arith, end-length v.available v.kind v.session) in
    let s : Wrote ((x ++ d) ++ y) y old out 40 = wrote-first (x ++ d) y old out 40 (omega arith) (sym lx) e1 in
    (wrote-last ((x ++ d) ++ y) y old out last 40 (value_length - token_at) s (omega (arith, s.size)) (sym ly) e2).1
    ∙ ap (λ (z : List ℕ). put z old) (append_assoc x d y)

-- A key, and a value behind it.
abbrev pub key_for : KeyOrder → LengthyAuthorisedEntry → List ℕ
key_for o a = key_in o (triple a.entry.subspace_id (components a.entry.path) a.entry.timestamp)

abbrev value_in : LengthyAuthorisedEntry → (kind session : ℕ) → Value
value_in a kind session = record {
  payload_length = a.entry.payload_length;
  payload_digest = a.entry.payload_digest;
  token = a.token;
  available = a.available;
  kind = kind;
  session = session;
}

record_is : (o : KeyOrder) (a : LengthyAuthorisedEntry) → record_of o (stored_of a) ≡ key_for o a ++ value_bytes (value_in a (origin_kind a.origin) (origin_session a.origin))
unfolding record_of stored_of triple_of value_for entry_of rank_of
record_is o a = refl

pub record-wrote : (o : KeyOrder) (a : LengthyAuthorisedEntry) → length a.entry.payload_digest ≡ 32 → length a.token ≡ 64 → (kind session : ℕ) → kind ≡ origin_kind a.origin → session ≡ origin_session a.origin → (old out last : List ℕ) (n m : ℕ)
    → n ≤ length old → n ≡ length (key_for o a) → out ≡ put (key_for o a) old → n + m ≤ length out → m ≡ value_length
    → last ≡ put (value_bytes (value_in a kind session)) (mid_of n (length out - n) out)
    → (n + m ≡ length (record_of o (stored_of a))) × (put_mid n (length out - n) out last ≡ put (record_of o (stored_of a)) old)
record-wrote o a ld lt kind session ek es old out last n m h e1 e2 fits e3 e4 =
    let v = value_bytes (value_in a kind session) in
    rw (record_is o a, ← ek, ← es)
    (wrote-last (key_for o a ++ v) v old out last n m (wrote-first (key_for o a) v old out n h e1 e2) fits (e3 ∙ sym (value-length (value_in a kind session) ld lt)) e4)
