pub mod NsecEvidence
