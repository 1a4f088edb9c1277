-- A message that is written out reads as what was written.
use Rattle.std.proofs.Common.{◌≡◌, ℕ, ◌+◌, ◌%◌, ◌^◌, ◌<◌, List, [], ◌++◌, length, map, drop, refl, sym, ◌∙◌, ap, arith, append_assoc, append-nil}
use Rattle.std.proofs.lemmas.List.{length-map}
use Rattle.byteorder.specs.Endian.{big_bytes}
use Rattle.dname.specs.Name.{Label, wire_of}
use Rattle.dname.specs.declared.types.TheConstants.{IN_CLASS}
use Rattle.dnswire.specs.Message.{IsMessage}
use Rattle.dnswire.specs.declared.message.Message.{Message}
use Rattle.zone_maker.specs.Messages.{header_octets, question_octets}
use Rattle.made_laws.proofs.WrittenLemmas.{behind, stands_within, number_stands, IsPlain, name_stands, Written, rr_in, octets_in, AreWritten, all_stand}

-- a message of one question of class IN, and two sections
abbrev pub message_of : ℕ → ℕ → List Label → ℕ → List Written → List Written → Message
message_of id flags name qtype answer authority = record {
  id = id;
  flags = flags;
  rcode = flags % 16;
  name = name;
  qtype = qtype;
  qclass = IN_CLASS;
  answer = map rr_in answer;
  authority = map rr_in authority;
  additional = [];
}

abbrev pub message_octets : ℕ → ℕ → List Label → ℕ → List Written → List Written → List ℕ
message_octets id flags name qtype answer authority =
    header_octets id flags (length answer) (length authority) 0 ++ (question_octets name qtype ++ (octets_in answer ++ octets_in authority))

pub message_reads : (id flags : ℕ) (name : List Label) (qtype : ℕ) (answer authority : List Written) → flags < 2 ^ 16 → IsPlain name → qtype < 2 ^ 16 → length answer < 2 ^ 16 → length authority < 2 ^ 16 → AreWritten answer → AreWritten authority
    → IsMessage (message_octets id flags name qtype answer authority) (message_of (id % 2 ^ 16) flags name qtype answer authority)
message_reads id flags name qtype answer authority small plain small' few few' written written' =
    let octets : List ℕ = message_octets id flags name qtype answer authority in
    let records : List ℕ = octets_in answer ++ octets_in authority in
    let at : ℕ = 12 + length (wire_of name) in
    let question : drop 12 octets ≡ wire_of name ++ ((big_bytes 2 qtype ++ big_bytes 2 IN_CLASS) ++ records) =
    ap (λ l. l ++ records) (append_assoc (wire_of name) (big_bytes 2 qtype) (big_bytes 2 IN_CLASS)) ∙ append_assoc (wire_of name) (big_bytes 2 qtype ++ big_bytes 2 IN_CLASS) records in
    let fields : drop at octets ≡ (big_bytes 2 qtype ++ big_bytes 2 IN_CLASS) ++ records = behind octets 12 (wire_of name) _ question in
    let class : drop (at + 2) octets ≡ big_bytes 2 IN_CLASS ++ records = behind octets at (big_bytes 2 qtype) _ fields in
    let first : drop (at + 4) octets ≡ octets_in answer ++ octets_in authority = behind octets at (big_bytes 2 qtype ++ big_bytes 2 IN_CLASS) _ fields in
    let second : drop (at + 4 + length (octets_in answer)) octets ≡ octets_in authority ++ [] = behind octets (at + 4) (octets_in answer) (octets_in authority) first ∙ sym (append-nil (octets_in authority)) in
    record {
      header = record { id = id % 2 ^ 16; flags = flags; questions = 1; answers = length answer; authorities = length authority; additionals = 0 };
      fields = record { qtype = qtype; qclass = IN_CLASS; end = at + 4 };
      question = record {
        fields_at = at;
        named = record {
          head = record {
            whole = omega arith;
            id = number_stands octets 0 2 (id % 2 ^ 16) _ (omega arith) refl;
            flags = number_stands octets 2 2 flags _ small refl;
            questions = number_stands octets 4 2 1 _ (omega arith) refl;
            answers = number_stands octets 6 2 (length answer) _ few refl;
            authorities = number_stands octets 8 2 (length authority) _ few' refl;
            additionals = number_stands octets 10 2 0 _ (omega arith) refl;
          };
          one = refl;
          name_at = name_stands octets 12 name _ plain question;
        };
        fields_are = record {
          type_is = number_stands octets at 2 qtype _ small' fields;
          class_is = number_stands octets (at + 2) 2 IN_CLASS _ (omega arith) class;
          end_is = refl;
          within = stands_within octets at (big_bytes 2 qtype ++ big_bytes 2 IN_CLASS) records (omega arith) fields;
        };
      };
      id = refl;
      flags = refl;
      rcode = omega arith;
      qtype = refl;
      qclass = refl;
      authority_at = at + 4 + length (octets_in answer);
      additional_at = at + 4 + length (octets_in answer) + length (octets_in authority);
      end = at + 4 + length (octets_in answer) + length (octets_in authority);
      answer = all_stand octets (at + 4) answer (octets_in authority) written first;
      answers = length-map answer rr_in;
      authority = all_stand octets (at + 4 + length (octets_in answer)) authority [] written' second;
      authorities = length-map authority rr_in;
      additional = refl;
      additionals = refl;
    }
