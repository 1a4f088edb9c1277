-- The messages of a made zone read as their records.
use Rattle.std.proofs.Common.{◌≡◌, ℕ, zero, suc, ◌%◌, ◌^◌, ◌≤◌, List, [], ◌∷◌, ◌++◌, length, refl, sym, ◌∙◌, ap, subst, arith, append_assoc, append-nil, length-append}
use Rattle.std.proofs.lemmas.List.Elements.{All-nil}
use Rattle.byteorder.specs.Endian.{big_bytes}
use Rattle.dname.specs.Name.{Label, without_asterisk, wire_of}
use Rattle.dname.specs.declared.types.TheConstants.{A_TYPE, NSEC_TYPE, RRSIG_TYPE, SOA_TYPE}
use Rattle.dnswire.specs.Message.{IsMessage}
use Rattle.dnswire.specs.declared.message.Message.{Message}
use Rattle.zone_maker.specs.Made.{made_example, NameKind, Host, Above, Cut, Wild, kind_at, address_at, soa_data, made_owner, next_owner}
use Rattle.zone_maker.specs.Messages.{header_octets, question_octets, record_octets, signature_data, signed_octets, first_of, type_map, nsec_data, answer_in, answers_in, answer_of, answers_of, message_flags, message_at}
use Rattle.made_laws.proofs.WrittenLemmas.{IsPlain, nothing, the_rest, name_then, laid_none, laid_rest, laid_numbers, laid_name, IsWritten, Written, octets_in, AreWritten}
use Rattle.made_laws.proofs.PlainLemmas.{plain_apex, plain_owner, plain_next}
use Rattle.made_laws.proofs.MessageLemmas.{message_of, message_octets, message_reads}

-- ---- the records

abbrev pub written_as : List Label → ℕ → List ℕ → Written
written_as owner rtype rdata = record { owner = owner; rtype = rtype; rdata = rdata }

-- a record and its signature
abbrev pub signed : List Label → ℕ → List ℕ → List Written
signed owner rtype rdata = written_as owner rtype rdata ∷ written_as owner RRSIG_TYPE (signature_data owner rtype) ∷ []

abbrev pub answer_for : NameKind → ℕ → ℕ → List Written
answer_for Host seed i = []
answer_for Above seed i = []
answer_for Cut seed i = []
answer_for Wild seed i = signed (made_owner (suc i)) A_TYPE (address_at seed i)

abbrev pub answer_at : ℕ → ℕ → List Written
answer_at seed zero = []
answer_at seed (suc i) = answer_for (kind_at i) seed i

abbrev pub authority_at : ℕ → ℕ → List Written
authority_at names k = signed made_example SOA_TYPE soa_data ++ signed (made_owner k) NSEC_TYPE (nsec_data names k)

abbrev pub made_message : ℕ → ℕ → ℕ → Message
made_message seed names k = message_of (k % 2 ^ 16) message_flags (made_owner k) A_TYPE (answer_at seed k) (authority_at names k)

-- ---- each is written

abbrev signature_end : List ℕ
signature_end = 0x5a ∷ 0x5a ∷ 0x5a ∷ 0x5a ∷ []

abbrev signature_front : List Label → ℕ → List ℕ
signature_front owner covered =
    big_bytes 2 covered ++ (13 ∷ length (without_asterisk owner) ∷ []) ++ big_bytes 4 3600 ++ big_bytes 4 2000000000 ++ big_bytes 4 900000000 ++ big_bytes 2 1

signature_written : (owner : List Label) (covered : ℕ) → IsPlain owner → IsWritten owner RRSIG_TYPE (signature_data owner covered)
signature_written owner covered plain = record {
  plain = plain;
  type_small = omega arith;
  data_short = omega arith;
  laid = laid_numbers (signature_front owner covered) (wire_of made_example ++ signature_end) (name_then the_rest)
      (laid_name made_example signature_end the_rest plain_apex (laid_rest signature_end));
}

plain_root : IsPlain []
plain_root = record { sizes = All-nil _; fits = omega arith; lower = refl }

abbrev soa_numbers : List ℕ
soa_numbers = big_bytes 4 1 ++ big_bytes 4 3600 ++ big_bytes 4 600 ++ big_bytes 4 86400 ++ big_bytes 4 300

soa_written : IsWritten made_example SOA_TYPE soa_data
soa_written = record {
  plain = plain_apex;
  type_small = omega arith;
  data_short = omega arith;
  laid = laid_name [] (wire_of [] ++ soa_numbers) _ plain_root (laid_name [] soa_numbers _ plain_root (laid_numbers soa_numbers [] nothing laid_none));
}

address_written : (owner : List Label) (seed i : ℕ) → IsPlain owner → IsWritten owner A_TYPE (address_at seed i)
address_written owner seed i plain = record { plain = plain; type_small = omega arith; data_short = omega arith; laid = laid_rest (address_at seed i) }

nsec_written : (names k : ℕ) → k ≤ names → IsWritten (made_owner k) NSEC_TYPE (nsec_data names k)
nsec_written names k small = record {
  plain = plain_owner k;
  type_small = omega arith;
  data_short = omega (arith, (plain_next names k small).fits, length-append (wire_of (next_owner names k)) (type_map (first_of k)));
  laid = laid_name (next_owner names k) (type_map (first_of k)) the_rest (plain_next names k small) (laid_rest (type_map (first_of k)));
}

answer_written : (kind : NameKind) (seed i : ℕ) → AreWritten (answer_for kind seed i)
answer_written Host seed i = tt
answer_written Above seed i = tt
answer_written Cut seed i = tt
answer_written Wild seed i = (address_written (made_owner (suc i)) seed i (plain_owner (suc i)), (signature_written (made_owner (suc i)) A_TYPE (plain_owner (suc i)), tt))

answer_all_written : (seed k : ℕ) → AreWritten (answer_at seed k)
answer_all_written seed zero = tt
answer_all_written seed (suc i) = answer_written (kind_at i) seed i

authority_written : (names k : ℕ) → k ≤ names → AreWritten (authority_at names k)
authority_written names k small = (soa_written, (signature_written made_example SOA_TYPE plain_apex, (nsec_written names k small, (signature_written (made_owner k) NSEC_TYPE (plain_owner k), tt))))

-- ---- the octets are theirs

two_octets : (owner : List Label) (rtype : ℕ) (rdata : List ℕ) → signed_octets owner rtype rdata ≡ octets_in (signed owner rtype rdata)
two_octets owner rtype rdata = ap (λ l. record_octets owner rtype rdata ++ l) (sym (append-nil (record_octets owner RRSIG_TYPE (signature_data owner rtype))))

answer_octets : (kind : NameKind) (seed i : ℕ) → answer_in kind seed i ≡ octets_in (answer_for kind seed i)
answer_octets Host seed i = refl
answer_octets Above seed i = refl
answer_octets Cut seed i = refl
answer_octets Wild seed i = two_octets (made_owner (suc i)) A_TYPE (address_at seed i)

answer_all_octets : (seed k : ℕ) → answer_of seed k ≡ octets_in (answer_at seed k)
answer_all_octets seed zero = refl
answer_all_octets seed (suc i) = answer_octets (kind_at i) seed i

answer_count : (kind : NameKind) (seed i : ℕ) → answers_in kind ≡ length (answer_for kind seed i)
answer_count Host seed i = refl
answer_count Above seed i = refl
answer_count Cut seed i = refl
answer_count Wild seed i = refl

answer_all_count : (seed k : ℕ) → answers_of k ≡ length (answer_at seed k)
answer_all_count seed zero = refl
answer_all_count seed (suc i) = answer_count (kind_at i) seed i

few_answers : (kind : NameKind) (seed i : ℕ) → length (answer_for kind seed i) ≤ 2
few_answers Host seed i = omega arith
few_answers Above seed i = omega arith
few_answers Cut seed i = omega arith
few_answers Wild seed i = omega arith

few_all_answers : (seed k : ℕ) → length (answer_at seed k) ≤ 2
few_all_answers seed zero = omega arith
few_all_answers seed (suc i) = few_answers (kind_at i) seed i

authority_octets : (names k : ℕ) → signed_octets made_example SOA_TYPE soa_data ++ signed_octets (made_owner k) NSEC_TYPE (nsec_data names k) ≡ octets_in (authority_at names k)
authority_octets names k =
    let soa : List ℕ = record_octets made_example SOA_TYPE soa_data in
    let signature : List ℕ = record_octets made_example RRSIG_TYPE (signature_data made_example SOA_TYPE) in
    append_assoc soa signature (signed_octets (made_owner k) NSEC_TYPE (nsec_data names k))
    ∙ ap (λ l. soa ++ (signature ++ l)) (two_octets (made_owner k) NSEC_TYPE (nsec_data names k))

in_groups : (q a s n : List ℕ) → q ++ a ++ s ++ n ≡ q ++ (a ++ (s ++ n))
in_groups q a s n = append_assoc (q ++ a) s n ∙ append_assoc q a (s ++ n)

pub octets_are : (seed names k : ℕ) → message_at seed names k ≡ message_octets k message_flags (made_owner k) A_TYPE (answer_at seed k) (authority_at names k)
octets_are seed names k =
    let question : List ℕ = question_octets (made_owner k) A_TYPE in
    let soa : List ℕ = signed_octets made_example SOA_TYPE soa_data in
    let nsec : List ℕ = signed_octets (made_owner k) NSEC_TYPE (nsec_data names k) in
    ap (λ l. header_octets k message_flags (answers_of k) 4 0 ++ l) (in_groups question (answer_of seed k) soa nsec)
    ∙ ap (λ n. header_octets k message_flags n 4 0 ++ (question ++ (answer_of seed k ++ (soa ++ nsec)))) (answer_all_count seed k)
    ∙ ap (λ l. header_octets k message_flags (length (answer_at seed k)) 4 0 ++ (question ++ (l ++ (soa ++ nsec)))) (answer_all_octets seed k)
    ∙ ap (λ l. header_octets k message_flags (length (answer_at seed k)) 4 0 ++ (question ++ (octets_in (answer_at seed k) ++ l))) (authority_octets names k)

pub made_reads : (seed names k : ℕ) → k ≤ names → IsMessage (message_at seed names k) (made_message seed names k)
made_reads seed names k small = subst (λ octets. IsMessage octets (made_message seed names k)) (sym (octets_are seed names k))
    (message_reads k message_flags (made_owner k) A_TYPE (answer_at seed k) (authority_at names k) (omega arith) (plain_owner k) (omega arith)
    (omega (arith, few_all_answers seed k)) (omega arith) (answer_all_written seed k) (authority_written names k small))
