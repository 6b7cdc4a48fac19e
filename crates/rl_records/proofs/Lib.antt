pub mod TextLaws
pub mod ContractLaws
pub mod FormLaws
pub mod StatementLaws
